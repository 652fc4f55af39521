-- How `goes_on` goes along a list of octets. Assumes nothing.
use mathlib.Core.Path.{◌≡◌, refl, ap, ◌∙◌}
use mathlib.Core.List.{List, [], ◌∷◌, ◌++◌}
use mathlib.Core.Bool.{Bool, true, false, ◌&&◌, and-false, or-false}
use Prim.Native.Nat.{ℕ, zero, suc, ◌≤◌, ◌<◌}
use native.Mathlib.Omega.{arith}
use lib.ListN.{length, get_or, replicate, length-replicate}
use borrow.Author.Tests.{le-leb, lt-leb}
use Rattle.std.proofs.Common.{Some, None}
use Rattle.std.proofs.lemmas.Slice.{first_rest}
use Rattle.std.specs.List.{list_all, between}
use Rattle.utf8.specs.Utf8.{Range, within, utf8_tail, utf8_char, behind, any_of, goes_on}
use Rattle.utf8.specs.Leads.{others, noted}
use Rattle.utf8.specs.declared.Lead.{Lead}
use Rattle.utf8.proofs.Leads.{left_behind}

-- An octet below 128 is a character.
pub ascii : (b : ℕ) (s : List ℕ) → b < 128 → goes_on [] (b ∷ s) ≡ goes_on [] s
unfolding goes_on any_of behind utf8_char
ascii b s l = rw (left_behind 0x00 0x7f ([] ∷ []) tt b (omega arith) (omega arith)) (or-false (goes_on [] s))

-- Fewer octets than ranges.
too_few : (rs : List Range) (t : List ℕ) → length t < length rs → goes_on rs t ≡ false
unfolding goes_on
too_few [] t h = absurd (omega arith)
too_few (r ∷ rs) [] h = refl
too_few (r ∷ rs) (b ∷ t) h = ap (λ x. within r b && x) (too_few rs t (omega arith)) ∙ and-false (within r b)

-- As many octets as tails, and then others.
tails_then :
    (n : ℕ) (t s : List ℕ) → length t ≡ n
    → goes_on (replicate n utf8_tail) (t ++ s) ≡ (list_all (within utf8_tail) t && goes_on [] s)
unfolding goes_on
tails_then zero [] s h = refl
tails_then zero (b ∷ t) s h = absurd (omega arith)
tails_then (suc n) [] s h = absurd (omega arith)
tails_then (suc n) (b ∷ t) s h = go (within utf8_tail b) (tails_then n t s (omega arith))
  where
    go : (x : Bool) → goes_on (replicate n utf8_tail) (t ++ s) ≡ (list_all (within utf8_tail) t && goes_on [] s)
        → (x && goes_on (replicate n utf8_tail) (t ++ s)) ≡ ((x && list_all (within utf8_tail) t) && goes_on [] s)
    go true e = e
    go false e = refl

-- ---- octets by their first and the rest

module _ (s : List ℕ) (some : 1 ≤ length s) where
  abbrev first : ℕ
  first = get_or s 0 0

  abbrev rest : List ℕ
  rest = between 1 (length s) s

  parts : (rs : List Range) → goes_on rs s ≡ goes_on rs (first ∷ rest)
  parts rs = ap (goes_on rs) (first_rest s 0 (omega arith))

  -- The first of a character.
  pub first_ascii : first < 128 → goes_on [] s ≡ goes_on [] rest
  first_ascii l = parts [] ∙ ascii first rest l

  pub no_char : behind utf8_char first ≡ noted None → goes_on [] s ≡ false
  unfolding goes_on any_of
  no_char e = parts [] ∙ rw e

  pub begins : (l : Lead) → behind utf8_char first ≡ noted (Some l) → goes_on [] s ≡ goes_on (others l) rest
  unfolding goes_on any_of
  begins l e = parts [] ∙ rw e (or-false (goes_on (others l) rest))

  -- The second of a longer one.
  module _ (l : Lead) where
    pub second_below : first < l.low → goes_on (others l) s ≡ false
    unfolding goes_on
    second_below h = parts (others l) ∙ rw (lt-leb l.low first h)

    pub second_above : l.low ≤ first → l.high < first → goes_on (others l) s ≡ false
    unfolding goes_on
    second_above h k = parts (others l) ∙ rw (le-leb l.low first h, lt-leb first l.high k)

    pub tails_past :
        (t u : List ℕ) → l.low ≤ first → first ≤ l.high → rest ≡ t ++ u → length t ≡ l.tails
        → goes_on (others l) s ≡ (list_all (within utf8_tail) t && goes_on [] u)
    unfolding goes_on
    tails_past t u h k e n =
        parts (others l) ∙ rw (le-leb l.low first h, le-leb first l.high k, e) (tails_then l.tails t u n)

-- A character that is cut off.
pub cut_off : (l : Lead) (s : List ℕ) → length s ≤ l.tails → goes_on (others l) s ≡ false
cut_off l s h = too_few (others l) s (omega (arith, length-replicate l.tails utf8_tail))

-- No octet is left.
pub at_end : (s : List ℕ) → length s < 1 → goes_on [] s ≡ true
unfolding goes_on
at_end [] h = refl
at_end (b ∷ s) h = absurd (omega arith)
