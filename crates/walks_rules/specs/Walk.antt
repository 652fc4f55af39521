-- A walk over elements, one after another: over the file's elements to the segment, over the segment's children, and
-- over what an element of unknown size holds.
use Rattle.std.specs.Prelude.{ℕ, zero, suc}
use Rattle.refusals.specs.declared.refusal.Refusal.{Refusal}
use Rattle.header.specs.declared.cursor.Headed.{Headed}
use Rattle.walks_rules.specs.Step.{on_child}
use Rattle.std.specs.Prelude.{Result, Option, Ok, Err}

-- What a visit of an element does: it ends the walk with an answer, or passes the element over, with what is known
-- then.
pub data Visit (A B : Type 0) : Type 0 where
  ends : B → Visit A B
  over : A → Visit A B

abbrev pub on_visit : {A B C : Type 0} → Visit A B → (B → C) → (A → C) → C
on_visit (ends b) done next = done b
on_visit (over a) done next = next a

abbrev pub on_passed : {A : Type 0} → Result ℕ Refusal → (Refusal → A) → (ℕ → A) → A
on_passed (Ok next) stop go = go next
on_passed (Err e) stop go = stop e

-- A walk: what it does with an element, and its answer at the end, which is at a place, and to a refusal.
pub record Walk (A B : Type 0) : Type 0 where
  pub visit : A → Headed → Visit A B
  pub ended : ℕ → A → B
  pub stop : Refusal → B

-- The elements from a place on, by a step to each and a way past it. Each takes a byte at least: `most` bounds how many
-- there are.
unfoldable pub walk :
    {A B : Type 0} → (step : ℕ → Result (Option Headed) Refusal) → (pass : Headed → Result ℕ Refusal) → Walk A B → (most at : ℕ) → A → B
walk step pass w zero at a = w.ended at a
walk step pass w (suc most) at a =
    on_child (step at) (w.ended at a) w.stop (λ e.
    on_visit (w.visit a e) (λ b. b) (λ more.
    on_passed (pass e) w.stop (λ next. walk step pass w most next more)))
