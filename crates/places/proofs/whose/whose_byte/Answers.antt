-- `whose_byte` meets its contract: 14, 15, the reading into the cleared table, the walk over its rows. Assumes nothing.
use mathlib.Core.Path.{sym, ◌∙◌}
use Rattle.std.proofs.lemmas.Result.{err_from_is_err_and}
use Rattle.elements_rules.proofs.Whole.{zeros_as, allowed_as, as_lent}
use Rattle.places_rules.proofs.Asked.{asked_broken, asked_outside, asked_refused, asked_rows, asked_found}
use Rattle.places.proofs.whose.whose_byte.Goals as goal

pub returns-then-not-is_allowed : goal.returns-then-not-is_allowed
returns-then-not-is_allowed c =
    let a = sym (c.is_allowed.ensures ∙ allowed_as _ _ c.clear.auto.table) ∙ c.if-not-is_allowed.true in
    rw c.at.ensures (asked_broken _ _ _ _ _ _ _ _ a c.clear.ensures)

pub returns-then-not-is_within : goal.returns-then-not-is_within
returns-then-not-is_within c =
    let a = sym (c.is_allowed.ensures ∙ allowed_as _ _ c.clear.auto.table) ∙ c.if-not-is_allowed.false in
    let w = sym c.is_within.ensures ∙ c.if-not-is_within.true in
    rw c.at-then-not-is_within.ensures (asked_outside _ _ _ _ _ _ _ _ a w c.clear.ensures)

pub fill-requires : goal.fill-requires
fill-requires c =
    record {
      table_value = sym c.is_allowed.ensures ∙ c.if-not-is_allowed.false;
      table_value_2 = c.clear.ensures ∙ zeros_as (sym c.clear.auto.table);
    }

pub find-requires : goal.find-requires
find-requires c =
    asked_rows _ _ _ _ _ _ _ _ (c.in_ok-rows.ensures)

pub returns-in_err-rows : goal.returns-in_err-rows
returns-in_err-rows c =
    let a = sym (c.is_allowed.ensures ∙ allowed_as _ _ c.clear.auto.table) ∙ c.if-not-is_allowed.false in
    let w = sym c.is_within.ensures ∙ c.if-not-is_within.false in
    let p = c.in_err-rows.ensures in
    let q = err_from_is_err_and c.from_residual.result c.from_residual.ensures.1 in
    rw (q.1, q.2) (asked_refused _ _ _ _ _ _ _ _ a w _ (as_lent _ _ _ _ _ _ _ _ _ c.clear.auto.table p))

pub returns : goal.returns
returns c =
    let a = sym (c.is_allowed.ensures ∙ allowed_as _ _ c.clear.auto.table) ∙ c.if-not-is_allowed.false in
    let w = sym c.is_within.ensures ∙ c.if-not-is_within.false in
    let p = c.in_ok-rows.ensures in
    asked_found _ _ _ _ _ _ _ _ a w _ _ (as_lent _ _ _ _ _ _ _ _ _ c.clear.auto.table p) c.find.ensures
