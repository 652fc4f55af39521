-- What the grammar leaves behind a first octet, by tests that antt computes over all octets of a range.
-- Assumes nothing.
use mathlib.Core.Path.{◌≡◌, refl, ap₂}
use mathlib.Core.List.{List, [], ◌∷◌}
use mathlib.Core.Bool.{Bool, true, false, ◌&&◌}
use Prim.Native.Nat.{ℕ, suc, ◌+◌, ◌-◌, ◌≤◌}
use native.Mathlib.Omega.{arith}
use lib.Dec.{T, eqb, eqb→eq}
use Rattle.booleans.proofs.Computed.{both_left, both_right, below, at}
use Rattle.utf8.specs.Utf8.{Range, range, Alternative, utf8_char, behind}

-- ---- a test that two lists of alternatives are equal

abbrev same_ranges : List Range → List Range → Bool
same_ranges [] [] = true
same_ranges [] (r ∷ rs) = false
same_ranges (r ∷ rs) [] = false
same_ranges (range a b ∷ rs) (range c d ∷ qs) = eqb a c && (eqb b d && same_ranges rs qs)

same_ranges_law : (rs qs : List Range) → T (same_ranges rs qs) → rs ≡ qs
same_ranges_law [] [] t = refl
same_ranges_law [] (r ∷ rs) t = absurd t
same_ranges_law (r ∷ rs) [] t = absurd t
same_ranges_law (range a b ∷ rs) (range c d ∷ qs) t =
    let u = both_right (eqb a c) (eqb b d && same_ranges rs qs) t in
    let low = eqb→eq a c (both_left (eqb a c) (eqb b d && same_ranges rs qs) t) in
    let high = eqb→eq b d (both_left (eqb b d) (same_ranges rs qs) u) in
    ap₂ ◌∷◌ (ap₂ range low high) (same_ranges_law rs qs (both_right (eqb b d) (same_ranges rs qs) u))

abbrev same : List Alternative → List Alternative → Bool
same [] [] = true
same [] (a ∷ l) = false
same (a ∷ k) [] = false
same (a ∷ k) (b ∷ l) = same_ranges a b && same k l

same_alternatives : (k l : List Alternative) → T (same k l) → k ≡ l
same_alternatives [] [] t = refl
same_alternatives [] (a ∷ l) t = absurd t
same_alternatives (a ∷ k) [] t = absurd t
same_alternatives (a ∷ k) (b ∷ l) t =
    ap₂ ◌∷◌ (same_ranges_law a b (both_left (same_ranges a b) (same k l) t))
    (same_alternatives k l (both_right (same_ranges a b) (same k l) t))

-- ---- the law

-- behind each octet from low to high the grammar leaves the same
abbrev pub leaves : ℕ → ℕ → List Alternative → Bool
leaves low high l = below (λ k. same (behind utf8_char (low + k)) l) (suc high - low)

pub left_behind : (low high : ℕ) (l : List Alternative) → T (leaves low high l)
    → (b : ℕ) → low ≤ b → b ≤ high → behind utf8_char b ≡ l
left_behind low high l t b h k =
    let e : b ≡ low + (b - low) = omega arith in
    rw e
    (same_alternatives (behind utf8_char (low + (b - low))) l
    (at (λ j. same (behind utf8_char (low + j)) l) (suc high - low) t (b - low) (omega arith)))
