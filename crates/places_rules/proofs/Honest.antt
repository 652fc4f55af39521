-- Where a range and the address question are refused (`PlacesHonest`). Assumes nothing.
use Prim.Native.Nat.{ℕ, ◌+◌, ◌/◌}
use mathlib.Core.Path.{◌≡◌, refl, ap, ◌∙◌, subst}
use mathlib.Core.List.{List, [], ◌∷◌}
use mathlib.Core.Logic.{inl, inr}
use mathlib.Core.Bool.{Bool, true, false, cond, ◌&&◌, not}
use native.Mathlib.Omega.{arith}
use lib.ListN.{length}
use lib.Dec.{leb, ltb}
use Rattle.refusals.specs.Refusals.{bad_argument, outside}
use Rattle.refusals.specs.Reply.{refusal}
use Rattle.refusals.specs.declared.refusal.Refusal.{Refusal}
use Rattle.elements_rules.specs.Forest.{count}
use Rattle.elements_rules.specs.Reading.{Outcome, done, refused}
use Rattle.elements_rules.specs.Rows.{rows_at, width, row_at}
use Rattle.elements_rules.specs.Holds.{within}
use Rattle.elements_rules.specs.Promise.{allowed, filled}
use Rattle.elements_rules.specs.Faults.{HonestReading, there, callers}
use Rattle.elements_rules.specs.declared.row.Row.{Row}
use Rattle.elements_rules.proofs.Faults.{of_test, filled_found}
use Rattle.places_rules.specs.Payload.{PayloadRange, range, payload_range}
use Rattle.places_rules.specs.Payload.{refused as no_range}
use Rattle.places_rules.specs.Whose.{named, holder_in, whose_in, asked_of, whose_of}
use Rattle.places_rules.specs.Promise.{values_of}
use Rattle.places_rules.specs.Theorems.{PlacesHonest}
use Rattle.places_rules.specs.declared.whose.Holder.TheVariants.{Header, Payload}
use Rattle.std.proofs.Common.{Option, Some, None}
use Rattle.places_rules.specs.declared.whose.Holder.{Holder}

-- A choice between a range and 14.
pub range_refused : (b : Bool) (r : PayloadRange) (e : Refusal)
    → refusal e ≡ values_of (cond b r (no_range bad_argument)) → (refusal e ≡ values_of r → e ≡ bad_argument)
    → e ≡ bad_argument
range_refused true r e q first = first q
range_refused false r e q first = cc

pub payload_refused : (s t : List ℕ) (row : ℕ) (e : Refusal) → refusal e ≡ values_of (payload_range s t row)
    → e ≡ bad_argument
unfolding payload_range
payload_refused s t row e q =
    let r = row_at t row in
    range_refused
    (allowed s 0 (length t)
    && (ltb row (length t / width) && leb (r.address + r.header + r.payload) (length s)))
    (range (r.address + r.header) r.payload) e q
    (λ w. let z : ◌≡◌ {A = ℕ} 0 1 = cc in absurd (let y : ⊥ = omega arith in y))

-- No row holds the address: 15.
pub none_holds : (rs : List Row) (row total x : ℕ) (e : Refusal) → refusal e ≡ whose_in rs row total x → outside ≡ e
unfolding whose_in
none_holds [] row total x e q = cc
none_holds (r ∷ rs) row total x e q = by (holder_in r x) q (none_holds rs (row + 1) total x e)
  where
    by : (h : Option Holder) → refusal e ≡ named h row total (whose_in rs (row + 1) total x)
        → (refusal e ≡ whose_in rs (row + 1) total x → outside ≡ e) → outside ≡ e
    by (Some Header) w rest = let z : ◌≡◌ {A = ℕ} 0 1 = cc in absurd (let y : ⊥ = omega arith in y)
    by (Some Payload) w rest = let z : ◌≡◌ {A = ℕ} 0 1 = cc in absurd (let y : ⊥ = omega arith in y)
    by None w rest = rest w

module _ (live : Bool) (s : List ℕ) (start size parent x numbers : ℕ) where
  abbrev HonestHere : Refusal → Type 0
  HonestHere e = HonestReading live s start size parent numbers e

  asked_honest : (e : Refusal) → asked_of live s start size parent x numbers ≡ refused e → HonestHere e
  unfolding asked_of
  asked_honest e q =
      of_test (not (allowed s start numbers)) bad_argument _ e q
      (λ b i. subst HonestHere i (callers (inl refl) refl))
      (λ b v.
      of_test (not (within start size x)) outside (filled live s start size parent numbers) e v
      (λ c i. subst HonestHere i (callers (inr refl) refl))
      (λ c w. there (filled_found live s start size parent numbers e w)))

  whose_honest : (o : Outcome) (e : Refusal) → asked_of live s start size parent x numbers ≡ o
      → refusal e ≡ whose_of start x o → HonestHere e
  whose_honest (done f) e k q =
      subst HonestHere (none_holds (rows_at start f) 0 (count f) x e q) (callers (inr refl) refl)
  whose_honest (refused e') e k q = let i : e' ≡ e = cc in asked_honest e (k ∙ ap refused i)

pub places_honest : PlacesHonest
places_honest = record {
  range = λ s t row e p. payload_refused s t row e p.reply;
  owner = λ live s start size parent x t e t' p.
      whose_honest live s start size parent x (length t) (asked_of live s start size parent x (length t)) e refl
      p.reply;
}
