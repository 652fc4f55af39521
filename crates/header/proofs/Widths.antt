-- How VINT_WIDTH goes along octets: at their end, over an octet that is 0, and at one that is not. Assumes nothing.
use mathlib.Core.Path.{◌≡◌, refl, ap, ◌∙◌, sym}
use mathlib.Core.List.{List, [], ◌∷◌, ◌++◌}
use mathlib.Core.Bool.{Bool, true, false, ◌||◌}
use Prim.Native.Nat.{ℕ, zero, suc, ◌+◌, ◌≤◌, ◌<◌}
use native.Mathlib.Numerals.{add-one}
use native.Mathlib.Omega.{arith}
use lib.ListN.{length, drop, get_or, drop_of_length-le}
use lib.Seq.{drop-cons}
use lib.Dec.{T, eqb, eqb→eq}
use lib.Count.{count_leading_zeros}
use borrow.Author.Tests.{ne_eqb, lt-ltb, le-ltb}
use Rattle.booleans.proofs.Computed.{below, at}
use Rattle.header.specs.Vint.{Width, unmarked, zeros, one_more, width_of, octet_bits, bits}
use Rattle.header.specs.Reads.{width_at, marked, octets_of}
use Rattle.header.specs.Theorems.{Octets}
use Rattle.header.specs.declared.cursor.VintFault.TheVariants.{Ends, Long}
use Rattle.std.proofs.Common.{Ok, Err, not}
use Rattle.std.specs.List.{list_any}

-- ---- one octet

abbrev is_width : Width → ℕ → Bool
is_width unmarked n = false
is_width (zeros z) n = eqb z n

is_width_law : (w : Width) (n : ℕ) → T (is_width w n) → w ≡ zeros n
is_width_law unmarked n t = absurd t
is_width_law (zeros z) n t = ap zeros (eqb→eq z n t)

abbrev octet_right : ℕ → Bool
octet_right b = eqb b 0 || is_width (width_of (octet_bits b)) (count_leading_zeros 8 b)

octets_right : T (below octet_right 256)
unfolding width_of one_more octet_bits count_leading_zeros
octets_right = tt

right_not_zero : (b : ℕ) (t : Bool) → (b ≡ 0 → ⊥) → T (eqb b 0 || t) → T t
right_not_zero b t n h = rw (ne_eqb b 0 n) at h

width_octet : (b : ℕ) → b < 256 → (b ≡ 0 → ⊥) → width_of (octet_bits b) ≡ zeros (count_leading_zeros 8 b)
width_octet b h n =
    is_width_law (width_of (octet_bits b)) (count_leading_zeros 8 b)
    (right_not_zero b (is_width (width_of (octet_bits b)) (count_leading_zeros 8 b)) n (at octet_right 256 octets_right b h))

-- ---- bits one after another

marked_more : (w : Width) → marked (one_more w) ≡ marked w
unfolding marked one_more
marked_more unmarked = refl
marked_more (zeros z) = refl

-- what stands after the marker does not count
width_append : (xs ys : List Bool) → marked (width_of xs) ≡ true → width_of (xs ++ ys) ≡ width_of xs
unfolding width_of marked
width_append [] ys m = let z : ◌≡◌ {A = ℕ} 0 1 = cc in absurd (omega arith)
width_append (true ∷ xs) ys m = refl
width_append (false ∷ xs) ys m = ap one_more (width_append xs ys (sym (marked_more (width_of xs)) ∙ m))

abbrev pub eight : Width → Width
eight w = one_more (one_more (one_more (one_more (one_more (one_more (one_more (one_more w)))))))

-- ---- octets one after another

pub marked_eight : (w : Width) → marked (eight w) ≡ marked w
unfolding marked one_more
marked_eight unmarked = refl
marked_eight (zeros z) = refl

pub width_end : (s : List ℕ) (i : ℕ) → length s ≤ i → width_at s i ≡ unmarked
unfolding width_of bits
width_end s i h = rw (drop_of_length-le s h)

pub width_zero : (s : List ℕ) (i : ℕ) → i < length s → get_or s i 0 ≡ 0
    → width_at s i ≡ eight (width_at s (i + 1))
unfolding width_of bits octet_bits
width_zero s i h e = rw (drop-cons s i 0 h, e, add-one i)

pub width_one : (s : List ℕ) (i : ℕ) → i < length s → get_or s i 0 < 256 → (get_or s i 0 ≡ 0 → ⊥)
    → width_at s i ≡ zeros (count_leading_zeros 8 (get_or s i 0))
unfolding bits marked
width_one s i h l n =
    let w = width_octet (get_or s i 0) l n in
    rw (drop-cons s i 0 h) (width_append (octet_bits (get_or s i 0)) (bits (drop (suc i) s)) (ap marked w) ∙ w)

eqb_no : (x : ℕ) → eqb x 0 ≡ false → x ≡ 0 → ⊥
eqb_no zero e z = cc
eqb_no (suc x) e z = cc

-- octets hold a marker where any of them is not 0
pub marked_any : (xs : List ℕ) → Octets xs → list_any (λ b. not (eqb b 0)) xs ≡ marked (width_of (bits xs))
unfolding bits octet_bits width_of marked
marked_any [] o = refl
marked_any (x ∷ xs) o = go (eqb x 0) refl (marked_any xs (λ i. o (suc i)))
  where
    go : (b : Bool) → eqb x 0 ≡ b → list_any (λ b. not (eqb b 0)) xs ≡ marked (width_of (bits xs))
        → (not b || list_any (λ b. not (eqb b 0)) xs) ≡ marked (width_of (octet_bits x ++ bits xs))
    go true e h = rw (eqb→eq x 0 (rw e tt)) (h ∙ sym (marked_eight (width_of (bits xs))))
    go false e h =
        let w = width_octet x (o 0) (eqb_no x e) in
        sym (ap marked (width_append (octet_bits x) (bits xs) (ap marked w) ∙ w))

-- ---- what a width past an octet that is 0 tells

octets_more : (z : ℕ) → 8 ≤ z → octets_of (zeros z) ≡ Err Long
unfolding octets_of
octets_more z h = rw (le-ltb z 8 h)

pub octets_long : (w : Width) → marked w ≡ true → octets_of (eight w) ≡ Err Long
unfolding marked one_more octets_of
octets_long unmarked m = absurd cc
octets_long (zeros z) m = octets_more (suc (suc (suc (suc (suc (suc (suc (suc z)))))))) (omega arith)

pub octets_none : (w : Width) → marked w ≡ false → octets_of (eight w) ≡ Err Ends
unfolding marked one_more octets_of
octets_none unmarked m = refl
octets_none (zeros z) m = absurd cc

pub octets_few : (z : ℕ) → z < 8 → octets_of (zeros z) ≡ Ok (z + 1)
unfolding octets_of
octets_few z h = rw (lt-ltb z 8 h)
