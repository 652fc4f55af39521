-- Where a record question is refused (`AnswerHonest`). Assumes nothing.
use Prim.Native.Nat.{ℕ}
use mathlib.Core.Path.{◌≡◌, refl, ap, ◌∙◌, subst}
use mathlib.Core.List.{List}
use mathlib.Core.Logic.{inr}
use mathlib.Core.Bool.{Bool}
use native.Mathlib.Omega.{arith}
use Rattle.refusals.specs.Refusals.{no_record}
use Rattle.refusals.specs.declared.refusal.Refusal.{Refusal}
use Rattle.elements_rules.specs.Reading.{Outcome, done, refused}
use Rattle.elements_rules.specs.Rows.{rows_at}
use Rattle.elements_rules.specs.Promise.{read_of}
use Rattle.elements_rules.specs.Faults.{HonestReading, callers}
use Rattle.elements_rules.specs.declared.row.Row.{Row}
use Rattle.elements_rules.proofs.Faults.{reading_honest}
use Rattle.fields_rules.specs.Values.{FieldValue}
use Rattle.locate_rules.specs.Steps.{reached}
use Rattle.locate_rules.specs.Asked.{Asked, found, refusing, settled, sought, asked, has_member, listed}
use Rattle.locate_rules.specs.Told.{refusal}
use Rattle.locate_rules.specs.Promise.{answer_of}
use Rattle.locate_rules.specs.Theorems.{AnswerHonest}
use Rattle.locate_rules.specs.declared.steps.Way.{Way}
use Rattle.std.proofs.Common.{Option, Some, None}

-- An answer that refuses is a question that is refused.
of_answer : (values : List Row → ℕ → List FieldValue) (a : Asked) (e : Refusal) → refusal e ≡ answer_of values a
    → a ≡ refusing e
of_answer values (found rs parent) e q = let z : ◌≡◌ {A = ℕ} 0 1 = cc in absurd (let y : ⊥ = omega arith in y)
of_answer values (refusing e') e q = cc

module _ (live : Bool) (s : List ℕ) (start size parent numbers : ℕ) where
  abbrev HonestHere : Refusal → Type 0
  HonestHere e = HonestReading live s start size parent numbers e

  -- There is none: 15.
  none : (e : Refusal) → no_record ≡ e → HonestHere e
  none e i = subst HonestHere i (callers (inr refl) refl)

  asked_honest : (w : Way) (e : Refusal) → asked live s start size parent numbers w ≡ refusing e → HonestHere e
  unfolding asked
  asked_honest w e q = by (read_of live s start size parent numbers) refl q
    where
      by_spot : (rs : List Row) (p : Option ℕ) → settled rs p ≡ refusing e → HonestHere e
      by_spot rs None r = none e (cc)
      by_spot rs (Some x) r = let z : ◌≡◌ {A = ℕ} 0 1 = cc in absurd (let y : ⊥ = omega arith in y)

      by : (o : Outcome) → read_of live s start size parent numbers ≡ o
          → sought start o (λ rs. reached rs w) ≡ refusing e → HonestHere e
      by (done f) k r = by_spot (rows_at start f) (reached (rows_at start f) w) r
      by (refused e') k r =
          let i : e' ≡ e = cc in
          reading_honest live s start size parent numbers e (k ∙ ap refused i)

  listed_honest : (w : Way) (member : List Row → ℕ → Option (ℕ × Row)) (e : Refusal)
      → listed (asked live s start size parent numbers w) member ≡ refusing e → HonestHere e
  listed_honest w member e q = by (asked live s start size parent numbers w) refl q
    where
      by_child : (a : Asked) (c : Option (ℕ × Row)) → has_member a c ≡ refusing e → (a ≡ refusing e → HonestHere e) → HonestHere e
      by_child a None r first = none e (cc)
      by_child a (Some (n, x)) r first = first r

      by : (a : Asked) → asked live s start size parent numbers w ≡ a → listed a member ≡ refusing e → HonestHere e
      by (found rs p) k r = by_child (found rs p) (member rs p) r (λ z. asked_honest w e (k ∙ z))
      by (refusing e') k r = asked_honest w e (k ∙ r)

pub answer_honest : AnswerHonest
answer_honest = record {
  of_record = λ live values s start size parent numbers w e t' p.
      asked_honest live s start size parent numbers w e (of_answer values _ e p.reply);
  of_member = λ live values member s start size parent numbers w e t' p.
      listed_honest live s start size parent numbers w member e (of_answer values _ e p.reply);
}
