-- Big-endian numbers: one octet more, their bounds, and that a number tells its octets. Assumes nothing.
use mathlib.Core.Path.{◌≡◌, refl, ap, ◌∙◌}
use mathlib.Core.Bool.{Bool, true, false}
use mathlib.Core.List.{List, [], ◌∷◌, ◌++◌}
use Prim.Native.Nat.{ℕ, suc, ◌+◌, ◌*◌, ◌^◌, ◌≤◌, ◌<◌}
use native.Mathlib.Numerals.{add-one}
use native.Mathlib.Nat.{mul-add, mul_assoc, mul-le-mul_right}
use native.Mathlib.Omega.{arith}
use lib.ListN.{length, take, drop, get_or, length-drop, length-take, get_or-eq_default}
use lib.Seq.{take-suc, get_or-take, get_or-drop}
use lib.Dec.{ltb}
use borrow.Author.Tests.{ltb-true, ltb-false}
use lib.Pow.{pow-add, pow_mono}
use Rattle.header.specs.Vint.{big_endian, big_endian_from}
use Rattle.header.specs.Theorems.{Octets}

from_last : (a : ℕ) (xs : List ℕ) (b : ℕ) → big_endian_from a (xs ++ (b ∷ [])) ≡ big_endian_from a xs * 256 + b
unfolding big_endian_from
from_last a [] b = refl
from_last a (x ∷ xs) b = from_last (a * 256 + x) xs b

pub number_more : (s : List ℕ) (at i : ℕ) → at + i < length s
    → big_endian (take (i + 1) (drop at s)) ≡ big_endian (take i (drop at s)) * 256 + get_or s (at + i) 0
unfolding big_endian
number_more s at i h =
    let k : i < length (drop at s) = simp length-drop (omega arith) in
    let l = from_last 0 (take i (drop at s)) (get_or (drop at s) i 0) in
    rw (add-one i, take-suc (drop at s) i 0 k, l, get_or-drop at s i 0)

-- one octet more is 8 bits more
pub more_fits : (i a b : ℕ) → a < 2 ^ (8 * i) → b < 256 → a * 256 + b < 2 ^ (8 * (i + 1))
more_fits i a b h k =
    let e : 2 ^ (8 * (i + 1)) ≡ 2 ^ (8 * i) * 256 = rw (mul-add 8 i 1, pow-add 2 (8 * i) 8) in
    omega arith

-- a number of n octets is below that of m, where n ≤ m
pub fits_in : (n m v : ℕ) → n ≤ m → v < 2 ^ (8 * n) → v < 2 ^ (8 * m)
fits_in n m v h k =
    let e : 2 ^ (8 * n) ≤ 2 ^ (8 * m) = pow_mono {i = 8 * n} {j = 8 * m} (omega arith) in
    omega arith

-- ---- octets and the numbers that they are

pub octets_drop : (s : List ℕ) → Octets s → (n : ℕ) → Octets (drop n s)
octets_drop s o n i = rw (get_or-drop n s i 0) (o (n + i))

pub octets_take : (s : List ℕ) → Octets s → (n : ℕ) → Octets (take n s)
octets_take s o n i = go (ltb i n) refl
  where
    go : (b : Bool) → ltb i n ≡ b → get_or (take n s) i 0 < 256
    go true e = rw (get_or-take n s i 0 (ltb-true i n e)) (o i)
    go false e =
        let l : length (take n s) ≤ i = omega (arith, length-take n s, ltb-false i n e) in
        rw (get_or-eq_default (take n s) 0 l) (omega arith)

-- a number of so many octets tells them, and what stood before them
pub from_same : (xs ys : List ℕ) (a b : ℕ) → Octets xs → Octets ys → length xs ≡ length ys
    → big_endian_from a xs ≡ big_endian_from b ys → (a ≡ b) × (xs ≡ ys)
unfolding big_endian_from
from_same [] [] a b f g l q = (q, refl)
from_same [] (y ∷ ys) a b f g l q = absurd (omega arith)
from_same (x ∷ xs) [] a b f g l q = absurd (omega arith)
from_same (x ∷ xs) (y ∷ ys) a b f g l q =
    let (e, k) = from_same xs ys (a * 256 + x) (b * 256 + y) (λ i. f (suc i)) (λ i. g (suc i)) (omega arith) q in
    let u : x < 256 = f 0 in
    let v : y < 256 = g 0 in
    let d : x ≡ y = omega arith in
    (omega arith, rw (d, k))

pub from_range : (xs : List ℕ) (a : ℕ) → Octets xs
    → (a * 2 ^ (8 * length xs) ≤ big_endian_from a xs) × (big_endian_from a xs < (a + 1) * 2 ^ (8 * length xs))
unfolding big_endian_from
from_range [] a o = (omega arith, omega arith)
from_range (x ∷ xs) a o =
    let (l, h) = from_range xs (a * 256 + x) (λ i. o (suc i)) in
    let u : x < 256 = o 0 in
    let p = 2 ^ (8 * length xs) in
    let s : 8 * suc (length xs) ≡ 8 + 8 * length xs = omega arith in
    let e : 2 ^ (8 * suc (length xs)) ≡ 256 * p = ap (λ (k : ℕ). 2 ^ k) s ∙ pow-add 2 8 (8 * length xs) in
    let lo = mul-le-mul_right {m = a * 256} {n = a * 256 + x} p (omega arith) in
    let hi = mul-le-mul_right {m = a * 256 + x + 1} {n = (a + 1) * 256} p (omega arith) in
    rw e (omega (arith, mul_assoc a 256 p), omega (arith, mul_assoc (a + 1) 256 p))
