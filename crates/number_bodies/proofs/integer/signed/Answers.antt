-- `signed` meets its contract: the upper half of the range lies below zero, and nothing overflows. Assumes nothing.
use Rattle.std.proofs.Common.{◌≡◌, ℕ, ◌+◌, ◌-◌, ◌*◌, ◌%◌, ◌^◌, ◌<◌, ℤ, negsuc, ◌-ℤ◌, ap, ◌∙◌, arith, to_z-of_z, w64, SFits, to_z}
use mir.Facts.{to_z_pos}
use Rattle.bodies_rules.proofs.Signs.{half, minus_one_less, signed_none, signed_low, signed_high}
use Rattle.number_bodies.proofs.integer.signed.Goals as goal

-- The code's half, and how far v lies below -1.
abbrev half_of : ℕ → ℕ
half_of n = (1 * 2 ^ (8 * n - 1)) % 2 ^ 64

abbrev below_of : ℕ → ℕ → ℕ
below_of n v = (half_of n - 1) + half_of n - v

pub returns-then-n-eq0 : goal.returns-then-n-eq0
returns-then-n-eq0 c =
    let v = c.args.v in
    let small : v < 2 ^ (8 * c.args.n) = omega arith in
    let none : v < 2 ^ (8 * 0) = rw c.if-n-eq0.true at small in
    rw c.if-n-eq0.true (signed_none v none)

pub returns-then-v-half : goal.returns-then-v-half
returns-then-v-half c =
    let a = c.args in
    to_z_pos w64 {n = a.v} (omega (arith, half c.args.n c.if-n-eq0.false (omega arith)))
    ∙ signed_low a.n _ a.v (half c.args.n c.if-n-eq0.false (omega arith)) c.if-v-half.true

-- What the code computes, below -1.
negative : (x : ℕ) → x < 2 ^ 63 → negsuc 0 -ℤ to_z w64 x ≡ negsuc x
negative x h = ap (λ (z : ℤ). negsuc 0 -ℤ z) (to_z_pos w64 {n = x} (omega arith)) ∙ minus_one_less x

negative_fits : (x : ℕ) → x < 2 ^ 63 → SFits w64 (negsuc 0 -ℤ to_z w64 x)
negative_fits x h = rw (negative x h) (record { sfits = omega arith })

pub overflow_sub-result : goal.overflow_sub-result
overflow_sub-result c =
    let a = c.args in
    negative_fits (below_of a.n a.v) (omega (arith, half c.args.n c.if-n-eq0.false (omega arith)))

pub returns : goal.returns
returns c =
    let a = c.args in
    let h = (half c.args.n c.if-n-eq0.false (omega arith)) in
    let small : a.v < 2 ^ (8 * a.n) = omega arith in
    let below = below_of a.n a.v in
    to_z-of_z {w = w64} (negative_fits below (omega (arith, h)))
    ∙ negative below (omega (arith, h)) ∙ signed_high a.n _ a.v h c.if-v-half.false small

pub overflow_cast-result : goal.overflow_cast-result
overflow_cast-result c = record { sfits = omega (arith, half c.args.n c.if-n-eq0.false (omega arith)) }

pub overflow_sub-below : goal.overflow_sub-below
overflow_sub-below c = omega (arith, half c.args.n c.if-n-eq0.false (omega arith))

pub overflow_add-below : goal.overflow_add-below
overflow_add-below c = omega (arith, half c.args.n c.if-n-eq0.false (omega arith))

pub overflow_sub-below-2 : goal.overflow_sub-below-2
overflow_sub-below-2 c = omega (arith, half c.args.n c.if-n-eq0.false (omega arith))

pub overflow_cast-result-2 : goal.overflow_cast-result-2
overflow_cast-result-2 c = record { sfits = omega (arith, half c.args.n c.if-n-eq0.false (omega arith)) }
