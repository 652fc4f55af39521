-- Two's complement by the half of the range. Assumes nothing.
use mathlib.Core.Path.{◌≡◌, refl, ap, ◌∙◌}
use Prim.Native.Nat.{ℕ, zero, suc, ◌+◌, ◌-◌, ◌*◌, ◌%◌, ◌^◌, ◌≤◌, ◌<◌}
use native.Mathlib.Omega.{arith}
use native.Mathlib.Nat.{zero-add}
use lib.Pow.{pow_pos, pow_mono, pow-add}
use lib.IntN.{pos, negsuc, ◌-ℤ◌}
use borrow.Author.Tests.{lt-ltb, le-ltb}
use Rattle.header.proofs.Data.{shifted_one}
use Rattle.bodies_rules.specs.Numbers.{signed_of}

-- The half of the range of n bytes.
pub record Half (n h : ℕ) : Type 0 where
  pub twice : 2 ^ (8 * n) ≡ 2 * h
  pub some : 0 < h
  pub fits : h ≤ 2 ^ 63

-- The half as the code computes it.
pub half : (n : ℕ) → (n ≡ 0 → ⊥) → n ≤ 8 → Half n ((1 * 2 ^ (8 * n - 1)) % 2 ^ 64)
half n some h =
    let power = 2 ^ (8 * n - 1) in
    let exact = shifted_one (8 * n - 1) (omega arith) in
    let one_more : 8 * n ≡ 1 + (8 * n - 1) = omega arith in
    let double : 2 ^ (8 * n) ≡ 2 * power = ap (λ (k : ℕ). 2 ^ k) one_more ∙ pow-add 2 1 (8 * n - 1) in
    let least : power ≤ 2 ^ 63 = pow_mono {i = 8 * n - 1} {j = 63} (omega arith) in
    rw exact (record { twice = double; some = pow_pos (8 * n - 1); fits = least })

-- A number below -1, as the code computes it.
pub minus_one_less : (x : ℕ) → negsuc 0 -ℤ pos x ≡ negsuc x
minus_one_less zero = refl
minus_one_less (suc x) = ap negsuc (ap suc (zero-add x))

-- A smaller number less a larger one.
less : (v m : ℕ) → v < m → pos v -ℤ pos m ≡ negsuc (m - suc v)
less v zero h = absurd (omega arith)
less v (suc m) h = rw (lt-ltb v (suc m) h)

pub signed_none : (v : ℕ) → v < 2 ^ (8 * 0) → pos 0 ≡ signed_of 0 v
unfolding signed_of
signed_none v h = let z : v ≡ 0 = omega arith in rw z

-- The lower half of the range is the number itself, the upper half lies below zero.
module _ (n h v : ℕ) (e : Half n h) where
  pub signed_low : v < h → pos v ≡ signed_of n v
  unfolding signed_of
  signed_low l = rw (lt-ltb (2 * v) (2 ^ (8 * n)) (omega (arith, e)))

  pub signed_high : h ≤ v → v < 2 ^ (8 * n) → negsuc ((h - 1) + h - v) ≡ signed_of n v
  unfolding signed_of
  signed_high g l =
      let same : (h - 1) + h - v ≡ 2 ^ (8 * n) - suc v = omega (arith, e) in
      rw (le-ltb (2 * v) (2 ^ (8 * n)) (omega (arith, e)), less v (2 ^ (8 * n)) l, same)
