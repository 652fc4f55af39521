-- A cut before the first zero octet parts no character of UTF-8 (`ShownIsUtf8`): zero is a character by itself, and no
-- other character holds it. Assumes nothing.
use Prim.Native.Nat.{ℕ}
use mathlib.Core.Path.{◌≡◌, refl, sym, ap, ◌∙◌, subst}
use mathlib.Core.List.Memᴰ
use mathlib.Core.List.{List, [], ◌∷◌, ◌++◌, Memᴰ}
use mathlib.Core.Logic.{◌⊎◌, inl, inr, ⊎_elim}
use mathlib.Core.Bool.{Bool, true, false, ◌&&◌}
use native.Mathlib.Omega.{arith}
use lib.Dec.{T, leb, eqb, leb→le}
use borrow.Author.Tests.{eqb-true, eqb-false}
use Rattle.booleans.proofs.Computed.{both_left, both_right}
use Rattle.utf8.specs.Utf8.{Range, range, Alternative, utf8_char, utf8}
use Rattle.utf8.specs.Grammar.{Matches, end, next, Utf8Octets, none, more}
use Rattle.utf8.proofs.Grammar.{utf8_decides}
use Rattle.elements_rules.specs.Rows.{row_at}
use Rattle.places_rules.specs.Payload.{payload_range, bytes_of}
use Rattle.shown_rules.specs.Shown.{shown, is_text}
use Rattle.shown_rules.specs.Theorems.{ShownIsUtf8}
use Rattle.shown_rules.proofs.Zeros.{at_zero, past}
use Rattle.shown_rules.proofs.Texts.{text_of, text_bytes}

-- Octets without a zero, before others.
shown_append : (c s : List ℕ) → (Memᴰ 0 c → ⊥) → shown (c ++ s) ≡ c ++ shown s
shown_append [] s clean = refl
shown_append (b ∷ c) s clean =
    past b (c ++ s) (λ z. clean (Memᴰ.head (sym z)))
    ∙ ap (λ (x : List ℕ). b ∷ x) (shown_append c s (λ m. clean (Memᴰ.tail m)))

-- ---- a character is the zero octet, or holds none

-- Whether none of the ranges has zero in it.
abbrev above : List Range → Bool
above [] = true
above (range low high ∷ rs) = leb 1 low && above rs

none_zero : {rs : List Range} {c : List ℕ} → Matches rs c → T (above rs) → Memᴰ 0 c → ⊥
none_zero end t m = Memᴰ.not-nil m
none_zero (next {low} {high} {b} {rs} l h ms) t m =
    ⊎_elim
    (λ z. let least = leb→le 1 low (both_left (leb 1 low) (above rs) t) in let y : ⊥ = omega arith in y)
    (none_zero ms (both_right (leb 1 low) (above rs) t))
    (Memᴰ.cases_cons m)

-- Whether an alternative has one octet, or none of its octets is zero.
abbrev apart : Alternative → Bool
apart [] = true
apart (r ∷ []) = true
apart (r ∷ q ∷ rs) = above (r ∷ q ∷ rs)

abbrev all_apart : List Alternative → Bool
all_apart [] = true
all_apart (a ∷ others) = apart a && all_apart others

one_apart : {a : Alternative} (l : List Alternative) → T (all_apart l) → Memᴰ a l → T (apart a)
one_apart [] t m = absurd (Memᴰ.not-nil m)
one_apart (x ∷ l) t m =
    ⊎_elim
    (λ e. subst (λ (y : Alternative). T (apart y)) (sym e) (both_left (apart x) (all_apart l) t))
    (one_apart l (both_right (apart x) (all_apart l) t))
    (Memᴰ.cases_cons m)

utf8_apart : T (all_apart utf8_char)
unfolding utf8_char
utf8_apart = tt

abbrev ZeroAlone : List ℕ → Type 0
ZeroAlone c = (c ≡ 0 ∷ []) ⊎ (Memᴰ 0 c → ⊥)

single : (b : ℕ) → ZeroAlone (b ∷ [])
single b = by (eqb b 0) refl
  where
    by : (t : Bool) → eqb b 0 ≡ t → ZeroAlone (b ∷ [])
    by true e = inl (ap (λ (x : ℕ). x ∷ []) (eqb-true b 0 e))
    by false e = inr (λ m. eqb-false b 0 e (sym (Memᴰ.eq_of_singleton m)))

matched : {a : Alternative} {c : List ℕ} → Matches a c → T (apart a) → ZeroAlone c
matched end t = inr Memᴰ.not-nil
matched (next {low} {high} {b} l h end) t = single b
matched (next l h (next l' h' ms)) t = inr (none_zero (next l h (next l' h' ms)) t)

-- ---- a text

octets_shown : {s : List ℕ} → Utf8Octets s → Utf8Octets (shown s)
unfolding shown
octets_shown none = none
octets_shown (more {c} {s} k r) = by (matched k.matches (one_apart utf8_char utf8_apart k.listed)) (octets_shown r)
  where
    by : ZeroAlone c → Utf8Octets (shown s) → Utf8Octets (shown (c ++ s))
    by (inl e) later = subst (λ (x : List ℕ). Utf8Octets (shown (x ++ s))) (sym e) (rw (at_zero 0 s refl) none)
    by (inr clean) later = rw (shown_append c s clean) (more k later)

shown_utf8 : (text : List ℕ) → utf8 text ≡ true → utf8 (shown text) ≡ true
shown_utf8 text e = (utf8_decides (shown text)).1 (octets_shown ((utf8_decides text).0 e))

pub shown_is_utf8 : ShownIsUtf8
shown_is_utf8 s t row payload part p q e = by (is_text (row_at t row).kind) refl
  where
    nothing : utf8 [] ≡ true
    nothing = (utf8_decides []).1 none

    by : (b : Bool) → is_text (row_at t row).kind ≡ b → utf8 part ≡ true
    by true d =
        let whole = ap utf8 (sym p.reply) ∙ e in
        ap utf8 (q.reply ∙ text_bytes s t row d) ∙ shown_utf8 (bytes_of s (payload_range s t row)) whole
    by false d = ap utf8 (q.reply ∙ ap (bytes_of s) (text_of s t row false d)) ∙ nothing
