-- Live mode beside old mode, of every record question (`AnswerModes`). Assumes nothing.
use Prim.Native.Nat.{ℕ}
use mathlib.Core.Path.{◌≡◌, sym, ap, ◌∙◌}
use mathlib.Core.List.{List}
use mathlib.Core.Logic.{◌⊎◌, inl, inr}
use mathlib.Core.Bool.{Bool, true, false, not}
use native.Mathlib.Omega.{arith}
use lib.ListN.{length}
use borrow.Author.Tests.{not-false}
use Rattle.refusals.specs.Refusals.{unknown_size, bad_argument}
use Rattle.refusals.specs.declared.refusal.Refusal.{Refusal}
use Rattle.elements_rules.specs.Reading.{Outcome, refused}
use Rattle.elements_rules.specs.Promise.{allowed, filled, read_of}
use Rattle.elements_rules.specs.Live.{LiveOr, seventeen, equal}
use Rattle.elements_rules.specs.declared.row.Row.{Row}
use Rattle.elements_rules.proofs.Faults.{of_test}
use Rattle.elements_rules.proofs.Live.{read_or, known_reading}
use Rattle.fields_rules.specs.Values.{FieldValue}
use Rattle.locate_rules.specs.Steps.{reached}
use Rattle.locate_rules.specs.Asked.{Asked, refusing, sought, asked, listed, table_after}
use Rattle.locate_rules.specs.Told.{Answer, refusal}
use Rattle.locate_rules.specs.Promise.{answer_of, RecordPromise}
use Rattle.locate_rules.specs.Live.{PayloadKnown, BothModes, AnswerModes}
use Rattle.locate_rules.specs.declared.steps.Way.{Way}
use Rattle.std.proofs.Common.{Option}

-- ---- what is asked

-- In live mode a question is 17, or the question of old mode.
abbrev AskedOr : (old live : Asked) → Type 0
AskedOr old live = ((a : ℕ) × (live ≡ refusing (unknown_size a))) ⊎ (live ≡ old)

module _ (s : List ℕ) (start size parent numbers : ℕ) (w : Way) where
  abbrev ask : Bool → Asked
  ask live = asked live s start size parent numbers w

  -- What follows from the payload's outcome.
  abbrev from : Outcome → Asked
  from o = sought start o (λ rs. reached rs w)

  asked_or : AskedOr (ask false) (ask true)
  unfolding asked
  asked_or = by (read_or s start size parent numbers)
    where
      by : LiveOr (read_of false s start size parent numbers) (read_of true s start size parent numbers)
          → AskedOr (ask false) (ask true)
      by (seventeen a e) = inl (a, ap from e)
      by (equal e) = inr (ap from e)

  -- Where no size that is read is unknown, the reading is not 17.
  not_unknown : (a : ℕ) → PayloadKnown s start size parent numbers
      → read_of true s start size parent numbers ≡ refused (unknown_size a) → ⊥
  unfolding read_of
  not_unknown a k q =
      of_test (not (allowed s start numbers)) bad_argument (filled true s start size parent numbers) (unknown_size a) q
      (λ b i.
      let j = ap (λ (r : Refusal). r.cause) i in
      let z : ◌≡◌ {A = ℕ} 0 1 = cc in let y : ⊥ = omega arith in y)
      (λ b v. known_reading s start size parent numbers a (k (not-false _ b)) q)

  asked_equal : PayloadKnown s start size parent numbers → ask true ≡ ask false
  unfolding asked
  asked_equal k = by (read_or s start size parent numbers)
    where
      by : LiveOr (read_of false s start size parent numbers) (read_of true s start size parent numbers)
          → ask true ≡ ask false
      by (seventeen a e) = absurd (not_unknown a k e)
      by (equal e) = ap from e

listed_or : {a b : Asked} (member : List Row → ℕ → Option (ℕ × Row)) → AskedOr a b → AskedOr (listed a member) (listed b member)
listed_or member (inl (a, e)) = inl (a, ap (λ (x : Asked). listed x member) e)
listed_or member (inr e) = inr (ap (λ (x : Asked). listed x member) e)

-- ---- what is answered

-- Answer and table are what the question decides.
module _ (values : List Row → ℕ → List FieldValue) (numbers : ℕ) {a b : Asked} {x y : Answer} {t' u' : List ℕ}
    (p : RecordPromise values a numbers x t') (q : RecordPromise values b numbers y u') where
  answers_equal : b ≡ a → (y ≡ x) × (u' ≡ t')
  answers_equal e = (
    q.reply ∙ ap (answer_of values) e ∙ sym p.reply,
    q.table ∙ ap (table_after numbers) e ∙ sym p.table,
  )

  answers_or : AskedOr a b → ((c : ℕ) × (y ≡ refusal (unknown_size c))) ⊎ ((y ≡ x) × (u' ≡ t'))
  answers_or (inl (c, e)) = inl (c, q.reply ∙ ap (answer_of values) e)
  answers_or (inr e) = inr (answers_equal e)

pub answer_modes : AnswerModes
answer_modes = record {
  of_record = λ values s start size parent w. record {
    live_or = λ t r r' t' u' p q. answers_or values _ p q (asked_or s start size parent _ w);
    equal = λ t r r' t' u' k p q. answers_equal values _ p q (asked_equal s start size parent _ w k);
  };
  of_member = λ values member s start size parent w. record {
    live_or = λ t r r' t' u' p q. answers_or values _ p q (listed_or member (asked_or s start size parent _ w));
    equal = λ t r r' t' u' k p q. answers_equal values _ p q
        (ap (λ (x : Asked). listed x member) (asked_equal s start size parent _ w k));
  };
}

-- ---- what is replied

-- Of a question whose replies are told apart by their answers.
module _ {R : Type 0} (told : R → Answer) (refused : Refusal → R) (once : (r r' : R) → told r ≡ told r' → r ≡ r')
    (told_refused : (e : Refusal) → told (refused e) ≡ refusal e) where
  replies_modes : {s : List ℕ} {start size parent : ℕ} (Permits : Bool → List ℕ → Answer → List ℕ → Type 0)
      → BothModes s start size parent refusal Permits
      → BothModes s start size parent refused
      (λ (live : Bool) (t : List ℕ) (r : R) (t' : List ℕ). Permits live t (told r) t')
  replies_modes Permits m = record {
    live_or = λ t r r' t' u' p q. by r r' (m.live_or t (told r) (told r') t' u' p q);
    equal = λ t r r' t' u' k p q. let (a, b) = m.equal t (told r) (told r') t' u' k p q in (once r' r a, b);
  }
    where
      by : {t' u' : List ℕ} (r r' : R)
          → ((a : ℕ) × (told r' ≡ refusal (unknown_size a))) ⊎ ((told r' ≡ told r) × (u' ≡ t'))
          → ((a : ℕ) × (r' ≡ refused (unknown_size a))) ⊎ ((r' ≡ r) × (u' ≡ t'))
      by r r' (inl (a, e)) = inl (a, once r' (refused (unknown_size a)) (e ∙ sym (told_refused _)))
      by r r' (inr (e, u)) = inr (once r' r e, u)

  module _ (values : List Row → ℕ → List FieldValue) (s : List ℕ) (start size parent : ℕ) (w : Way) where
    pub record_modes :
        BothModes s start size parent refused (λ (live : Bool) (t : List ℕ) (r : R) (t' : List ℕ).
        RecordPromise values (asked live s start size parent (length t) w) (length t) (told r) t')
    record_modes = replies_modes _ (answer_modes.of_record values s start size parent w)

    pub member_modes : (member : List Row → ℕ → Option (ℕ × Row))
        → BothModes s start size parent refused (λ (live : Bool) (t : List ℕ) (r : R) (t' : List ℕ).
        RecordPromise values (listed (asked live s start size parent (length t) w) member) (length t) (told r) t')
    member_modes member = replies_modes _ (answer_modes.of_member values member s start size parent w)
