-- `find_part`: 14, the walk to the part, the reading into the cleared table. Assumes nothing.
use mathlib.Core.Path.{◌≡◌, refl, sym, ap, ◌∙◌}
use Prim.Native.Nat.{ℕ}
use Rattle.std.proofs.Common.{Result, Option, Ok}
use Rattle.booleans.proofs.Handed.{handed}
use Rattle.header.specs.declared.cursor.Headed.{Headed}
use Rattle.refusals.specs.declared.refusal.Refusal.{Refusal}
use Rattle.elements_rules.proofs.Limits.{within}
use Rattle.elements_rules.proofs.Whole.{zeros_as, allowed_as, as_lent}
use Rattle.search_rules.proofs.Finding.{found_allowed, find_broken, find_none, find_stopped, find_absent}
use Rattle.search_rules.proofs.Finding.{find_refused, find_rows}
use Rattle.search.proofs.part.find_part.Goals as goal

-- What the walk told of the part, in the answer that tells the heads too.
was_there : {x y : Option Headed} {n : ℕ} → x ≡ y → ◌≡◌ {A = Result (Option Headed × ℕ) Refusal} (Ok (x, n)) (Ok (y, n))
was_there {n = n} e = ap (λ (z : Option Headed). Ok (z, n)) e

pub returns-then-not-is_allowed : goal.returns-then-not-is_allowed
returns-then-not-is_allowed c =
    let a = sym (c.is_allowed.ensures ∙ allowed_as _ _ c.clear.auto.table) ∙ c.if-not-is_allowed.true in
    find_broken _ _ _ _ _ _ a refl c.clear.ensures

pub look_up-requires : goal.look_up-requires
look_up-requires c =
    (within _ _ _ (sym c.is_allowed.ensures ∙ c.if-not-is_allowed.false)).bytes

pub fill-requires : goal.fill-requires
fill-requires c =
    let a = sym c.is_allowed.ensures ∙ c.if-not-is_allowed.false in
    let w = sym (c.in_ok-found.was ∙ was_there c.in-Some-found.is) ∙ c.look_up.ensures in
    record {
      table_value = found_allowed _ _ _ _ _ _ a w;
      table_value_2 = c.clear.ensures ∙ zeros_as (sym c.clear.auto.table);
    }

pub returns-in_default : goal.returns-in_default
returns-in_default c =
    let a = sym (c.is_allowed.ensures ∙ allowed_as _ _ c.clear.auto.table) ∙ c.if-not-is_allowed.false in
    find_none _ _ _ _ a _ _ (sym c.parent_of.ensures ∙ c.in_default.is) refl c.clear.ensures

pub returns-in_err-found : goal.returns-in_err-found
returns-in_err-found c =
    let a = sym (c.is_allowed.ensures ∙ allowed_as _ _ c.clear.auto.table) ∙ c.if-not-is_allowed.false in
    let i = sym c.parent_of.ensures ∙ c.in-Some.is in
    rw (handed _ c.from_residual.ensures.1)
    (find_stopped _ _ _ _ a _ i _ _ (sym c.in_err-found.was ∙ c.look_up.ensures) c.clear.ensures)

pub returns-in_default-found : goal.returns-in_default-found
returns-in_default-found c =
    let a = sym (c.is_allowed.ensures ∙ allowed_as _ _ c.clear.auto.table) ∙ c.if-not-is_allowed.false in
    let i = sym c.parent_of.ensures ∙ c.in-Some.is in
    find_absent _ _ _ _ a _ i _ _ (sym (c.in_ok-found.was ∙ was_there c.in_default-found.is) ∙ c.look_up.ensures)
    c.clear.ensures

pub returns-in_err-rows : goal.returns-in_err-rows
returns-in_err-rows c =
    let a = sym (c.is_allowed.ensures ∙ allowed_as _ _ c.clear.auto.table) ∙ c.if-not-is_allowed.false in
    let i = sym c.parent_of.ensures ∙ c.in-Some.is in
    let w = sym (c.in_ok-found.was ∙ was_there c.in-Some-found.is) ∙ c.look_up.ensures in
    let r = rw c.in_err-rows.was at c.fill.ensures in
    rw (handed _ c.from_residual-in_err-rows.ensures.1)
    (find_refused _ _ _ _ a _ i _ _ w _ _ (as_lent _ _ _ _ _ _ _ _ _ c.clear.auto.table r))

pub returns : goal.returns
returns c =
    let a = sym (c.is_allowed.ensures ∙ allowed_as _ _ c.clear.auto.table) ∙ c.if-not-is_allowed.false in
    let i = sym c.parent_of.ensures ∙ c.in-Some.is in
    let w = sym (c.in_ok-found.was ∙ was_there c.in-Some-found.is) ∙ c.look_up.ensures in
    let r = rw c.in_ok-rows.was at c.fill.ensures in
    find_rows _ _ _ _ a _ i _ _ w _ _ (as_lent _ _ _ _ _ _ _ _ _ c.clear.auto.table r)
