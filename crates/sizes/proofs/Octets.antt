-- `unknown` tells what the octets of the size are (`UnknownOctets`), and its cases. Assumes nothing.
use Prim.Native.Nat.{ℕ, zero, suc, ◌+◌, ◌*◌, ◌^◌, ◌≤◌, ◌<◌}
use mathlib.Core.Path.{◌≡◌, refl, sym, ap, ◌∙◌}
use mathlib.Core.List.{List, ◌∷◌}
use mathlib.Core.Bool.{Bool, true, false, ◌&&◌}
use native.Mathlib.Omega.{arith}
use lib.Pow.{pow-add}
use lib.ListN.{length, take, drop, get_or, replicate}
use lib.Seq.{length-take-le}
use lib.Dec.{eqb, leb}
use borrow.Author.Tests.{eqb-true, lt-ltb, le-ltb, le-leb, eq-eqb}
use Rattle.header.specs.Vint.{octet_bits, bits, one_more, width_of, big_endian_from, big_endian, of_width, vint_of}
use Rattle.header.specs.Header.{header_of, named, sized}
use Rattle.header.specs.Theorems.{Octets}
use Rattle.header.specs.declared.cursor.Header.{Header}
use Rattle.header.proofs.BigEndian.{octets_drop, octets_take, from_same}
use Rattle.header.proofs.Determined.{Parts, parts, number_value}
use Rattle.sizes.specs.Unknown.{id_octets, size_octets, unknown, ones_of}
use Rattle.sizes.specs.Theorems.{UnknownOctets, UnknownCases}

id_octets_law : (n id : ℕ) → 1 ≤ n → n ≤ 4 → 2 ^ (7 * n) ≤ id → id < 2 ^ (7 * n + 1) → id_octets id ≡ n
id_octets_law zero id a b l h = absurd (omega arith)
id_octets_law (suc zero) id a b l h = rw (lt-ltb id 0x100 (omega arith))
id_octets_law (suc (suc zero)) id a b l h = rw (le-ltb id 0x100 (omega arith), lt-ltb id 0x10000 (omega arith))
id_octets_law (suc (suc (suc zero))) id a b l h =
    rw (le-ltb id 0x100 (omega arith), le-ltb id 0x10000 (omega arith), lt-ltb id 0x1000000 (omega arith))
id_octets_law (suc (suc (suc (suc zero)))) id a b l h =
    rw (le-ltb id 0x100 (omega arith), le-ltb id 0x10000 (omega arith), le-ltb id 0x1000000 (omega arith))
id_octets_law (suc (suc (suc (suc (suc n))))) id a b l h = absurd (omega arith)

both_true : (a b : Bool) → (a && b) ≡ true → (a ≡ true) × (b ≡ true)
both_true true b q = (refl, q)
both_true false b q = let z : ◌≡◌ {A = ℕ} 0 1 = cc in absurd (omega arith)

-- The octets of an unknown size: how many, as a number, and that they are octets.
record Ones (m : ℕ) : Type 0 where
  many : length (ones_of m) ≡ m
  value : big_endian (ones_of m) + 1 ≡ 2 ^ (7 * m + 1)
  octets : Octets (ones_of m)

full_octets : (n i : ℕ) → get_or (replicate n 255) i 0 < 256
full_octets zero i = omega arith
full_octets (suc n) zero = omega arith
full_octets (suc n) (suc i) = full_octets n i

ones_octets : (b n : ℕ) → b < 256 → Octets (b ∷ replicate n 255)
ones_octets b n l zero = l
ones_octets b n l (suc i) = full_octets n i

ones : (m : ℕ) → 1 ≤ m → m ≤ 8 → Ones m
unfolding big_endian big_endian_from ones_of
ones zero a b = absurd (omega arith)
ones (suc zero) a b = record { many = refl; value = refl; octets = ones_octets 255 0 (omega arith) }
ones (suc (suc zero)) a b = record { many = refl; value = refl; octets = ones_octets 127 1 (omega arith) }
ones (suc (suc (suc zero))) a b = record { many = refl; value = refl; octets = ones_octets 63 2 (omega arith) }
ones (suc (suc (suc (suc zero)))) a b = record { many = refl; value = refl; octets = ones_octets 31 3 (omega arith) }
ones (suc (suc (suc (suc (suc zero))))) a b =
    record { many = refl; value = refl; octets = ones_octets 15 4 (omega arith) }
ones (suc (suc (suc (suc (suc (suc zero)))))) a b =
    record { many = refl; value = refl; octets = ones_octets 7 5 (omega arith) }
ones (suc (suc (suc (suc (suc (suc (suc zero))))))) a b =
    record { many = refl; value = refl; octets = ones_octets 3 6 (omega arith) }
ones (suc (suc (suc (suc (suc (suc (suc (suc zero)))))))) a b =
    record { many = refl; value = refl; octets = ones_octets 1 7 (omega arith) }
ones (suc (suc (suc (suc (suc (suc (suc (suc (suc m))))))))) a b = absurd (omega arith)

module _ (s : List ℕ) (o : Octets s) (h : Header) (p : Parts s h) where
  abbrev octets : List ℕ
  octets = take p.m (drop p.n s)

  name_is : id_octets h.id ≡ p.n
  name_is =
      let a = p.named in
      id_octets_law p.n h.id a.some_octets p.few a.low a.high

  size_is : size_octets h ≡ p.m
  size_is = let e = name_is in omega (arith, p.long)

  -- The number that the size's octets are, and the size.
  value_is : big_endian octets ≡ 2 ^ (7 * p.m) + h.size
  value_is =
      sym p.sized.value
      ∙ number_value (drop p.n s) p.m p.v p.sized
      ∙ ap (λ (y : ℕ). 2 ^ (7 * p.m) + y) (sym p.size)

  the_ones : Ones p.m
  the_ones = ones p.m p.sized.some_octets p.short

  is_ones : unknown h ≡ true → octets ≡ ones_of p.m
  unfolding unknown big_endian
  is_ones u =
      let x = (both_true (leb (size_octets h) 8) (eqb (h.size + 1) (2 ^ (7 * size_octets h))) u).1 in
      let e : h.size + 1 ≡ 2 ^ (7 * p.m) = rw size_is at (eqb-true (h.size + 1) (2 ^ (7 * size_octets h)) x) in
      let d : 2 ^ (7 * p.m + 1) ≡ 2 ^ (7 * p.m) * 2 = pow-add 2 (7 * p.m) 1 in
      let w : big_endian octets ≡ big_endian (ones_of p.m) = omega (arith, value_is, the_ones.value) in
      (from_same octets (ones_of p.m) 0 0 (octets_take _ (octets_drop s o p.n) p.m) the_ones.octets
      (length-take-le p.m (drop p.n s) p.sized.there ∙ sym the_ones.many) w).1

  is_unknown : octets ≡ ones_of p.m → unknown h ≡ true
  unfolding unknown
  is_unknown q =
      let d : 2 ^ (7 * p.m + 1) ≡ 2 ^ (7 * p.m) * 2 = pow-add 2 (7 * p.m) 1 in
      let w : big_endian octets ≡ big_endian (ones_of p.m) = ap big_endian q in
      let e : h.size + 1 ≡ 2 ^ (7 * p.m) = omega (arith, value_is, the_ones.value) in
      rw (size_is, le-leb p.m 8 p.short) (eq-eqb (h.size + 1) (2 ^ (7 * p.m)) e)

pub unknown_octets : UnknownOctets
unknown_octets s o h q =
    let p = parts s o h q in
    rw (size_is s o h p, name_is s o h p) (is_ones s o h p, is_unknown s o h p)

pub unknown_cases : UnknownCases
unfolding octet_bits bits one_more width_of big_endian_from big_endian of_width vint_of sized named header_of unknown
unknown_cases = (refl, refl, refl, refl, refl)
