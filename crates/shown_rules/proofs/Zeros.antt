-- A text up to its first zero octet (`BeforeZero`, `Longest`, `OneBeforeZero`). Assumes nothing.
use Prim.Native.Nat.{ℕ, ◌+◌, ◌≤◌}
use mathlib.Core.Path.{◌≡◌, refl, sym, ap, ◌∙◌}
use mathlib.Core.List.Memᴰ
use mathlib.Core.List.{List, [], ◌∷◌, ◌++◌, Memᴰ}
use mathlib.Core.Logic.{◌⊎◌, inl, inr, ⊎_elim}
use mathlib.Core.Bool.{Bool, true, false, cond}
use native.Mathlib.Omega.{arith}
use lib.ListN.{length, take, length-append}
use lib.Seq.{take_all, take-append_seam}
use lib.Dec.{eqb, ltb}
use borrow.Author.Tests.{eq-eqb, ne_eqb, eqb-true, eqb-false, ltb-false}
use Rattle.std.proofs.Common.{Some, None}
use Rattle.std.proofs.lemmas.List.Recursion.{is_position_or_len}
use Rattle.std.specs.List.{position, position_or_len}
use Rattle.shown_rules.specs.Shown.{shown}
use Rattle.shown_rules.specs.Theorems.{BeforeZero, Longest, OneBeforeZero}

-- ---- one octet

pub at_zero : (b : ℕ) (text : List ℕ) → b ≡ 0 → shown (b ∷ text) ≡ []
unfolding shown
at_zero b text e = rw (eq-eqb b 0 e)

pub past : (b : ℕ) (text : List ℕ) → (b ≡ 0 → ⊥) → shown (b ∷ text) ≡ b ∷ shown text
unfolding shown
past b text e = rw (ne_eqb b 0 e)

-- ---- what is shown ends before the first zero octet

pub before_zero : (text : List ℕ) → BeforeZero text (shown text)
unfolding shown
before_zero [] = record { rest = []; begins = refl; clean = Memᴰ.not-nil; stops = inl refl }
before_zero (b ∷ text) = by (eqb b 0) refl (before_zero text)
  where
    by : (t : Bool) → eqb b 0 ≡ t → BeforeZero text (shown text) → BeforeZero (b ∷ text) (shown (b ∷ text))
    by true e later =
        let zero = eqb-true b 0 e in
        rw (at_zero b text zero)
        (record {
          rest = b ∷ text;
          begins = refl;
          clean = Memᴰ.not-nil;
          stops = inr (text, ap (λ (x : ℕ). x ∷ text) zero);
        })
    by false e later =
        let other = eqb-false b 0 e in
        rw (past b text other)
        (record {
          rest = later.rest;
          begins = ap (λ (x : List ℕ). b ∷ x) later.begins;
          clean = λ m. ⊎_elim (λ z. other (sym z)) later.clean (Memᴰ.cases_cons m);
          stops = later.stops;
        })

pub longest : Longest
longest text part p other rest e clean = by part other p.rest (sym p.begins ∙ e) clean p.stops
  where
    by : (part other after : List ℕ) → part ++ after ≡ other ++ rest → (Memᴰ 0 other → ⊥)
        → (after ≡ []) ⊎ ((behind : List ℕ) × (after ≡ 0 ∷ behind)) → length other ≤ length part
    by part [] after e clean stops = omega arith
    by [] (b ∷ other) after e clean (inl none) = let z : ◌≡◌ {A = ℕ} 0 1 = cc in absurd (omega arith)
    by [] (b ∷ other) after e clean (inr (behind, zero)) = absurd (clean (Memᴰ.head (cc)))
    by (a ∷ part) (b ∷ other) after e clean stops =
        let more = by part other after (cc) (λ m. clean (Memᴰ.tail m)) stops in omega arith

-- A tail that begins with a zero octet changes nothing.
pub tail_cut : (text tail : List ℕ) → shown (text ++ 0 ∷ tail) ≡ shown text
unfolding shown
tail_cut [] tail = at_zero 0 tail refl
tail_cut (b ∷ text) tail = rw (tail_cut text tail)

pub one_before_zero : OneBeforeZero
one_before_zero text part part' p q =
    let n : length part ≡ length part'
    = omega (
      arith,
      longest text part p part' q.rest q.begins q.clean,
      longest text part' q part p.rest p.begins p.clean,
    ) in
    sym (begun part p.rest p.begins) ∙ ap (λ (x : ℕ). take x text) n ∙ begun part' q.rest q.begins
  where
    begun : (part rest : List ℕ) → text ≡ part ++ rest → take (length part) text ≡ part
    begun part rest e = ap (take (length part)) e ∙ take-append_seam part rest

-- ---- how many octets are shown

pub shown_fits : (text : List ℕ) → length (shown text) ≤ length text
shown_fits text =
    let p = before_zero text in
    omega (arith, length-append (shown text) p.rest, ap length p.begins)

pub shown_taken : (text : List ℕ) → take (length (shown text)) text ≡ shown text
shown_taken text =
    let p = before_zero text in
    ap (take (length (shown text))) p.begins ∙ take-append_seam (shown text) p.rest

-- ---- the place of the first zero octet

-- As many octets are shown as stand before the first zero octet.
length_shown : (text : List ℕ) → length (shown text) ≡ position_or_len (λ b. eqb b 0) text
unfolding shown
length_shown = is_position_or_len (λ text. length (shown text)) (λ b. eqb b 0) refl step
  where
    step : (b : ℕ) (text : List ℕ) → length (shown (b ∷ text)) ≡ cond (eqb b 0) 0 (1 + length (shown text))
    step b text = by (eqb b 0)
      where
        by : (t : Bool) → length (cond t [] (b ∷ shown text)) ≡ cond t 0 (1 + length (shown text))
        by true = refl
        by false = omega arith

pub before_first_zero : (text : List ℕ) (end : ℕ) → position (λ b. eqb b 0) text ≡ Some end → take end text ≡ shown text
before_first_zero text end q = by (ltb (length (shown text)) (length text)) (rw (sym (length_shown text)) at q)
  where
    by : (t : Bool) → cond t (Some (length (shown text))) None ≡ Some end → take end text ≡ shown text
    by true e = let n : end ≡ length (shown text) = cc in rw n (shown_taken text)
    by false e = absurd (cc)

pub no_zero : (text : List ℕ) → position (λ b. eqb b 0) text ≡ None → text ≡ shown text
no_zero text q = by (ltb (length (shown text)) (length text)) refl (rw (sym (length_shown text)) at q)
  where
    by : (t : Bool) → ltb (length (shown text)) (length text) ≡ t → cond t (Some (length (shown text))) None ≡ None
        → text ≡ shown text
    by true o e = absurd (cc)
    by false o e =
        let n = ltb-false (length (shown text)) (length text) o in
        sym (take_all (length (shown text)) text n) ∙ shown_taken text
