-- The order of a list of numbers by one computed test. Assumes nothing.
use mathlib.Core.Path.{◌≡◌, refl}
use mathlib.Core.List.{List, [], ◌∷◌}
use mathlib.Core.Logic.{◌⊎◌, inl, inr}
use mathlib.Core.Bool.{Bool, true, false, ◌&&◌}
use Prim.Native.Nat.{ℕ, zero, suc, ◌≤◌, ◌<◌}
use native.Mathlib.Nat.{le_of_suc-le-suc, not-suc-le-zero}
use native.Mathlib.Omega.{arith}
use lib.ListN.{length, get_or}
use lib.Dec.{T, ltb, ltb→lt}
use borrow.Author.Tests.{ltb-true, ltb-false}
use Rattle.booleans.proofs.Computed.{both_left, both_right}

pub lt_or_le : (a b : ℕ) → (a < b) ⊎ (b ≤ a)
lt_or_le a b = by (ltb a b) refl
  where
    by : (t : Bool) → ltb a b ≡ t → (a < b) ⊎ (b ≤ a)
    by true e = inl (ltb-true a b e)
    by false e = inr (ltb-false a b e)

-- The test: the first number is above a, and each other above the one before it.
abbrev pub rises : ℕ → List ℕ → Bool
rises a [] = true
rises a (x ∷ xs) = ltb a x && rises x xs

above : (a : ℕ) (xs : List ℕ) → T (rises a xs) → (j : ℕ) → j < length xs → a < get_or xs j 0
above a [] t j h = absurd (not-suc-le-zero h)
above a (x ∷ xs) t zero h = ltb→lt a x (both_left (ltb a x) (rises x xs) t)
above a (x ∷ xs) t (suc j) h =
    let here = ltb→lt a x (both_left (ltb a x) (rises x xs) t) in
    let there = above x xs (both_right (ltb a x) (rises x xs) t) j (le_of_suc-le-suc h) in
    omega (arith, here, there)

pub ordered :
    (a : ℕ) (xs : List ℕ) → T (rises a xs) → (i j : ℕ) → i < j → j < length xs → get_or xs i 0 < get_or xs j 0
ordered a [] t i j l h = absurd (not-suc-le-zero h)
ordered a (x ∷ xs) t i zero l h = absurd (not-suc-le-zero l)
ordered a (x ∷ xs) t zero (suc j) l h =
    above x xs (both_right (ltb a x) (rises x xs) t) j (le_of_suc-le-suc h)
ordered a (x ∷ xs) t (suc i) (suc j) l h =
    ordered x xs (both_right (ltb a x) (rises x xs) t) i j (le_of_suc-le-suc l) (le_of_suc-le-suc h)
