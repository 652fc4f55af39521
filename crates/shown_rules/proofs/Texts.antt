-- The shown text of a row, its place in the payload, and when there is none. Assumes nothing.
use Prim.Native.Nat.{ℕ, ◌+◌, ◌-◌, ◌/◌, ◌≤◌, ◌<◌}
use mathlib.Core.Path.{◌≡◌, refl, sym, ap, ◌∙◌}
use mathlib.Core.List.{List, []}
use mathlib.Core.Bool.{Bool, true, false, cond}
use native.Mathlib.Omega.{arith}
use lib.ListN.{length, take, drop, length-take}
use lib.Seq.{take-take}
use Rattle.refusals.specs.Refusals.{bad_argument}
use Rattle.refusals.specs.Reply.{refusal}
use Rattle.refusals.specs.declared.refusal.Refusal.{Refusal}
use Rattle.bodies_rules.specs.declared.body.Range.{Range}
use Rattle.elements_rules.specs.Rows.{width, row_at}
use Rattle.elements_rules.specs.declared.row.Row.{Row}
use Rattle.places_rules.specs.Payload.{PayloadRange, range, refused, payload_range, bytes_of}
use Rattle.places_rules.specs.Promise.{values_of, RangePromise, PayloadPromise}
use Rattle.places_rules.proofs.Unique.{range_of, range_back}
use Rattle.places_rules.proofs.Ranges.{Inside, told_range, told_none, place_inside, place_refused, place_row}
use Rattle.shown_rules.specs.Shown.{shown, is_text, shown_in, text_range}
use Rattle.shown_rules.specs.Promise.{TextPromise, ShownPromise}
use Rattle.shown_rules.specs.Theorems.{ShownBeforeZero, TailUnseen, TextInPayload, NoTextRefused}
use Rattle.shown_rules.proofs.Zeros.{before_zero, tail_cut, shown_fits, shown_taken}
use Rattle.std.proofs.Common.{Result, Ok, Err}

-- ---- what is shown of a range

module _ (s : List ℕ) where
  -- Not more than the range has.
  shown_short : (at n : ℕ) → length (shown (take n (drop at s))) ≤ n
  shown_short at n =
      omega (arith, shown_fits (take n (drop at s)), length-take n (drop at s))

  -- The octets of the shown range are what is shown of the octets of the range.
  pub shown_bytes : (r : PayloadRange) → bytes_of s (shown_in s r) ≡ shown (bytes_of s r)
  unfolding shown
  shown_bytes (range at n) =
      sym (take-take (length (shown (take n (drop at s)))) n (drop at s) (shown_short at n))
      ∙ shown_taken (take n (drop at s))
  shown_bytes (refused e) = refl

-- ---- the shown text of a row

module _ (s t : List ℕ) (k : ℕ) where
  pub text_of : (b : Bool) → is_text (row_at t k).kind ≡ b
      → text_range s t k ≡ cond b (shown_in s (payload_range s t k)) (refused bad_argument)
  unfolding text_range
  text_of b e = rw e

  module _ {q : (Result Range Refusal)} (p : RangePromise s t k q) where
    -- The row that has a range is one of the table's.
    pub row_there : {g : Range} → q ≡ Ok g → k < length t / width
    row_there {g} e =
        place_row s t k g.at g.length (told_range (payload_range s t k) g (rw e at p).reply)

    -- Without a range there is no text either: both are 14.
    pub no_range : {e : Refusal} → q ≡ Err e → TextPromise s t k (Err e)
    no_range {e} f =
        record { reply = go (is_text (row_at t k).kind) refl (payload_range s t k) refl (rw f at p).reply }
      where
        go : (b : Bool) → is_text (row_at t k).kind ≡ b → (x : PayloadRange) → payload_range s t k ≡ x
            → refusal e ≡ values_of x → refusal e ≡ values_of (text_range s t k)
        go b d (range a n) w y = cc
        go true d (refused f) w y = y ∙ sym (ap values_of (text_of true d ∙ ap (shown_in s) w))
        go false d (refused f) w y = cc (place_refused s t k f w, text_of false d)

    module _ {r : Row} (w : r ≡ row_at t k) {b : Bool} (o : b ≡ is_text r.kind) where
      by_row : is_text (row_at t k).kind ≡ b
      by_row = sym (o ∙ ap (λ (x : Row). is_text x.kind) w)

      -- So many octets of the payload are shown, from its first on.
      pub is_shown : {g : Range} → q ≡ Ok g → b ≡ true → {payload : List ℕ} → PayloadPromise s t k payload
          → (n : ℕ) → n ≡ length (shown payload) → TextPromise s t k (Ok (record { at = g.at; length = n }))
      is_shown {g} e y {payload} whole n l =
          let place = told_range (payload_range s t k) g (rw e at p).reply in
          let octets = whole.reply ∙ ap (bytes_of s) place in
          record {
            reply =
                ap (λ (x : ℕ). values_of (range g.at x)) (l ∙ ap (λ (x : List ℕ). length (shown x)) octets)
                ∙ sym (ap values_of (text_of true (by_row ∙ y) ∙ ap (shown_in s) place));
          }

      pub no_text : b ≡ false → TextPromise s t k (Err bad_argument)
      no_text y = record { reply = sym (ap values_of (text_of false (by_row ∙ y))) }

  -- ---- the part that is handed back

  -- A text's range is what is shown of the row's payload.
  pub record TextPlace (at n : ℕ) : Type 0 where
    pub many : ℕ
    pub place : payload_range s t k ≡ range at many
    pub fewer : n ≤ many

  text_place : (at n : ℕ) → text_range s t k ≡ range at n → TextPlace at n
  text_place at n e = go (is_text (row_at t k).kind) refl (payload_range s t k) refl
    where
      go : (b : Bool) → is_text (row_at t k).kind ≡ b → (x : PayloadRange) → payload_range s t k ≡ x → TextPlace at n
      go true d (range a m) w =
          let q : range a (length (shown (take m (drop a s)))) ≡ range at n
          = sym (text_of true d ∙ ap (shown_in s) w) ∙ e in
          let same : a ≡ at = cc in
          let long : length (shown (take m (drop a s))) ≡ n = cc in
          record {
            many = m;
            place = w ∙ ap (λ (y : ℕ). range y m) same;
            fewer = omega (arith, shown_short s a m);
          }
      go true d (refused f) w =
          let z : ◌≡◌ {A = ℕ} 0 1 = cc (text_of true d ∙ ap (shown_in s) w) in absurd (omega arith)
      go false d x w = let z : ◌≡◌ {A = ℕ} 0 1 = cc (text_of false d) in absurd (omega arith)

  module _ {q : (Result Range Refusal)} (p : TextPromise s t k q) where
    module _ {g : Range} (e : q ≡ Ok g) where
      shown_at : text_range s t k ≡ range g.at g.length
      shown_at = told_range (text_range s t k) g (rw e at p).reply

      pub shown_inside : Inside s g.at g.length
      shown_inside =
          let x = text_place g.at g.length shown_at in
          let i = place_inside s t k g.at x.many x.place in
          let l = x.fewer in
          let j = i.ends in
          record { ends = omega arith; short = i.short }

      pub shown_is : ShownPromise s t k (take (g.at + g.length - g.at) (drop g.at s))
      shown_is =
          let n : g.at + g.length - g.at ≡ g.length = omega arith in
          record { reply = rw n (sym (ap (bytes_of s) shown_at)) }

    pub shown_none : {e : Refusal} → q ≡ Err e → ShownPromise s t k []
    shown_none {e} f = record { reply = told_none s (text_range s t k) e (rw f at p).reply }

  -- ---- the theorems

  -- The shown octets of a text row are what is shown of its payload.
  pub text_bytes :
      is_text (row_at t k).kind ≡ true → bytes_of s (text_range s t k) ≡ shown (bytes_of s (payload_range s t k))
  text_bytes d = ap (bytes_of s) (text_of true d) ∙ shown_bytes s (payload_range s t k)

pub shown_before_zero : ShownBeforeZero
shown_before_zero s t row payload part d p q =
    let e = q.reply ∙ text_bytes s t row d ∙ ap shown (sym p.reply) in
    rw e (before_zero payload)

pub tail_unseen : TailUnseen
tail_unseen s t row s' t' row' payload tail part part' d d' p p' q q' =
    q.reply ∙ text_bytes s t row d ∙ ap shown (sym p.reply)
    ∙ sym (q'.reply ∙ text_bytes s' t' row' d' ∙ ap shown (sym p'.reply) ∙ tail_cut payload tail)

pub text_in_payload : TextInPayload
text_in_payload s t row payload r d p q =
    let place = told_range (payload_range s t row) payload p.reply in
    let text : Range = record {
      at = payload.at;
      length = length (shown (take payload.length (drop payload.at s)));
    } in
    let told = q.reply ∙ ap values_of (text_of s t row true d ∙ ap (shown_in s) place) in
    record {
      text = text;
      told = sym (range_back r) ∙ ap range_of told;
      address = refl;
      within = shown_short s payload.at payload.length;
      part =
          rw (shown_bytes s (range payload.at payload.length))
          (before_zero (take payload.length (drop payload.at s)));
    }

pub no_text_refused : NoTextRefused
no_text_refused s t row r d p =
    sym (range_back r) ∙ ap range_of (p.reply ∙ ap values_of (text_of s t row false d))
