-- The address question in live mode beside old mode (`LiveWhose`, `EqualWhose`, `WhoseRowsKnown`). Assumes nothing.
use Prim.Native.Nat.{ℕ, ◌/◌}
use mathlib.Core.Path.{◌≡◌, refl, sym, ap, ◌∙◌, subst}
use mathlib.Core.List.{List}
use mathlib.Core.Logic.{◌⊎◌, inl, inr}
use mathlib.Core.Bool.{true, false, not}
use native.Mathlib.Omega.{arith}
use lib.ListN.{length}
use borrow.Author.Tests.{not-false}
use Rattle.refusals.specs.Refusals.{unknown_size, bad_argument, outside}
use Rattle.refusals.specs.Reply.{accepted, refusal}
use Rattle.refusals.specs.declared.refusal.Refusal.{Refusal}
use Rattle.sizes.specs.Unknown.{unknown}
use Rattle.elements_rules.specs.Forest.{count}
use Rattle.elements_rules.specs.Reading.{Outcome, done, refused}
use Rattle.elements_rules.specs.Rows.{rows_at, width, rows_of}
use Rattle.elements_rules.specs.Holds.{within}
use Rattle.elements_rules.specs.Promise.{keeping, allowed, filled, read_of, reply_of, table_of}
use Rattle.elements_rules.specs.Theorems.{Each}
use Rattle.elements_rules.specs.Faults.{Comes}
use Rattle.elements_rules.specs.Live.{AllKnown, LiveOr, seventeen, equal, header_of_row}
use Rattle.elements_rules.proofs.Outcomes.{passes}
use Rattle.elements_rules.proofs.Numbered.{length_rows_of}
use Rattle.elements_rules.proofs.Faults.{of_test}
use Rattle.elements_rules.proofs.Live.{test_or, filled_or, known_reading, rows_known}
use Rattle.places_rules.specs.Whose.{by_header, by_payload, asked_of, whose_of}
use Rattle.places_rules.specs.Promise.{whose_told}
use Rattle.places_rules.specs.Live.{LiveWhose, EqualWhose, WhoseRowsKnown}
use Rattle.places_rules.specs.declared.whose.WhoseRow.TheVariants.{Header, Payload}
use Rattle.places_rules.proofs.Unique.{replied, replied_back}
use Rattle.places_rules.proofs.Owners.{asked_done, row_owns}
use Rattle.places_rules.proofs.Honest.{none_holds}
use Rattle.std.proofs.Common.{Ok, Err}

module _ (s : List ℕ) (start size parent x numbers : ℕ) where
  asked_or : LiveOr (asked_of false s start size parent x numbers) (asked_of true s start size parent x numbers)
  unfolding asked_of
  asked_or =
      test_or (not (allowed s start numbers)) bad_argument _ _
      (test_or (not (within start size x)) outside _ _ (filled_or s start size parent numbers))

  -- 17 of the question is 17 of the reading, behind the tests for 14 and 15.
  asked_unknown : {A : Type 0} (a : ℕ) → asked_of true s start size parent x numbers ≡ refused (unknown_size a)
      → (allowed s start numbers ≡ true → within start size x ≡ true
      → read_of true s start size parent numbers ≡ refused (unknown_size a) → A) → A
  unfolding asked_of read_of
  asked_unknown a q k =
      of_test (not (allowed s start numbers)) bad_argument _ (unknown_size a) q
      (λ b i.
      let j = ap (λ (r : Refusal). r.cause) i in
      let z : ◌≡◌ {A = ℕ} 0 1 = cc in absurd (let y : ⊥ = omega arith in y))
      (λ b v.
      of_test (not (within start size x)) outside (filled true s start size parent numbers) (unknown_size a) v
      (λ c i.
      let j = ap (λ (r : Refusal). r.cause) i in
      let z : ◌≡◌ {A = ℕ} 0 1 = cc in absurd (let y : ⊥ = omega arith in y))
      (λ c w. k (not-false _ b) (not-false _ c) (passes _ _ _ b ∙ w)))

  -- Where no size that is read is unknown, the reply is not 17.
  not_unknown : (a : ℕ)
      → (allowed s start numbers ≡ true → within start size x ≡ true
      → AllKnown s (Comes s (keeping false) (numbers / width) 0 parent start size 0))
      → (o : Outcome) → asked_of true s start size parent x numbers ≡ o
      → refusal (unknown_size a) ≡ whose_of start x o → ⊥
  not_unknown a k (done f) w q =
      let i = ap (λ (r : Refusal). r.cause) (none_holds (rows_at start f) 0 (count f) x (unknown_size a) q) in
      let z : ◌≡◌ {A = ℕ} 0 1 = cc in
      omega arith
  not_unknown a k (refused e) w q =
      let i : e ≡ unknown_size a = cc in
      asked_unknown a (w ∙ ap refused i) (λ b c. known_reading s start size parent numbers a (k b c))

pub live_whose : LiveWhose
live_whose s start size parent x t r r' t' u' p q = by (asked_or s start size parent x (length t))
  where
    by : LiveOr (asked_of false s start size parent x (length t)) (asked_of true s start size parent x (length t))
        → ((a : ℕ) × (r' ≡ Err (unknown_size a))) ⊎ ((r' ≡ r) × (u' ≡ t'))
    by (seventeen a e) = inl (a, sym (replied_back r') ∙ ap replied (q.reply ∙ ap (whose_of start x) e))
    by (equal e) =
        inr (
          sym (replied_back r') ∙ ap replied (q.reply ∙ ap (whose_of start x) e ∙ sym p.reply) ∙ replied_back r,
          q.table ∙ ap (table_of start (length t)) e ∙ sym p.table,
        )

pub equal_whose : EqualWhose
equal_whose s start size parent x t r r' t' u' k p q = by (live_whose s start size parent x t r r' t' u' p q)
  where
    by : ((a : ℕ) × (r' ≡ Err (unknown_size a))) ⊎ ((r' ≡ r) × (u' ≡ t')) → (r' ≡ r) × (u' ≡ t')
    by (inl (a, e)) =
        absurd (not_unknown s start size parent x (length t) a k (asked_of true s start size parent x (length t)) refl
        (ap whose_told (sym e) ∙ q.reply))
    by (inr z) = z

pub whose_rows_known : WhoseRowsKnown
whose_rows_known s start size parent x t r t' row rows p e =
    by (asked_of true s start size parent x (length t)) refl e
  where
    -- The reply tells how many rows there are.
    told : {k m : ℕ} {A B : Type 0} → (r ≡ Ok (Header row rows)) ⊎ (r ≡ Ok (Payload row rows))
        → ((r ≡ Ok (Header k m)) × A) ⊎ ((r ≡ Ok (Payload k m)) × B) → m ≡ rows
    told (inl i) (inl (j, a)) = cc
    told (inr i) (inr (j, a)) = cc
    told (inl i) (inr (j, a)) = let z : ◌≡◌ {A = ℕ} 0 1 = cc in absurd (let y : ⊥ = omega arith in y)
    told (inr i) (inl (j, a)) = let z : ◌≡◌ {A = ℕ} 0 1 = cc in absurd (let y : ⊥ = omega arith in y)

    by : (o : Outcome) → asked_of true s start size parent x (length t) ≡ o
        → (r ≡ Ok (Header row rows)) ⊎ (r ≡ Ok (Payload row rows))
        → Each (λ r. unknown (header_of_row r) ≡ false) (rows_of t' rows)
    by (done f) q i =
        let o = (asked_done true s start size parent x (length t) f q).1 in
        let g = row_owns true s start size parent x t r t' f p q in
        subst (λ (n : ℕ). Each (λ r. unknown (header_of_row r) ≡ false) (rows_of t' n))
        (sym (length_rows_of t' (count f)) ∙ told i g.which)
        (rows_known s start size parent t (count f) t'
        (record {
          reply = sym (ap reply_of o);
          table = p.table ∙ ap (table_of start (length t)) (q ∙ sym o);
        }))
    by (refused d) q (inl i) =
        let v : accepted (by_header row rows) ≡ refusal d
        = ap whose_told (sym i) ∙ p.reply ∙ ap (whose_of start x) q in
        let z : ◌≡◌ {A = ℕ} 0 1 = cc in absurd (let y : ⊥ = omega arith in y)
    by (refused d) q (inr i) =
        let v : accepted (by_payload row rows) ≡ refusal d
        = ap whose_told (sym i) ∙ p.reply ∙ ap (whose_of start x) q in
        let z : ◌≡◌ {A = ℕ} 0 1 = cc in absurd (let y : ⊥ = omega arith in y)
