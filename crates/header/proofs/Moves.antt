-- A header depends on its own octets alone, wherever they stand (`HeaderMoves`). Assumes nothing.
use Prim.Native.Nat.{ℕ, zero, suc, ◌+◌, ◌≤◌, ◌<◌}
use mathlib.Core.Path.{◌≡◌, refl, sym, ap, ◌∙◌}
use mathlib.Core.List.{List, [], ◌∷◌, ◌++◌}
use mathlib.Core.Bool.{Bool, true, false}
use native.Mathlib.Omega.{arith}
use native.Mathlib.Nat.{zero-add, suc-add}
use lib.ListN.{length, take, drop, length-take}
use lib.Seq.{take-nil, take-take}
use borrow.Author.Tests.{lt-ltb, le-leb}
use Rattle.header.specs.Vint.{Width, unmarked, zeros, one_more, width_of, octet_bits, bits}
use Rattle.header.specs.Vint.{Vint, vint, ends, long, of_width, vint_of}
use Rattle.header.specs.Header.{heading, sized, named, header_of}
use Rattle.header.specs.Reads.{headed_at, header_read, header_at}
use Rattle.header.specs.Theorems.{HeaderMoves}
use Rattle.header.specs.declared.cursor.Header.{Header}
use Rattle.header.proofs.Inside.{made, header_read_law}

-- ---- octets that begin alike

drop_take : (k n : ℕ) (s : List ℕ) → drop k (take (k + n) s) ≡ take n (drop k s)
drop_take zero n s = rw zero-add
drop_take (suc k) n [] = rw suc-add (sym (take-nil n))
drop_take (suc k) n (b ∷ s) = rw suc-add (drop_take k n s)

module _ (s t : List ℕ) where
  pub fewer_alike : (m n : ℕ) → m ≤ n → take n s ≡ take n t → take m s ≡ take m t
  fewer_alike m n l q = sym (take-take m n s l) ∙ ap (take m) q ∙ take-take m n t l

  pub later_alike : (k n : ℕ) → take (k + n) s ≡ take (k + n) t → take n (drop k s) ≡ take n (drop k t)
  later_alike k n q = sym (drop_take k n s) ∙ ap (drop k) q ∙ drop_take k n t

  pub as_many : (n : ℕ) → n ≤ length s → take n s ≡ take n t → n ≤ length t
  as_many n l q = omega (arith, length-take n s, length-take n t, ap length q)

-- ---- a VINT

one_less : (w : Width) (z : ℕ) → one_more w ≡ zeros z → (y : ℕ) × (w ≡ zeros y) × (z ≡ suc y)
unfolding one_more
one_less unmarked z q = let x : ◌≡◌ {A = ℕ} 0 1 = cc in absurd (omega arith)
one_less (zeros y) z q = (y, refl, cc)

-- A marker among the first bits is found whatever follows them.
width_within : (xs ys zs : List Bool) (z : ℕ) → z < length xs → width_of (xs ++ ys) ≡ zeros z
    → width_of (xs ++ zs) ≡ zeros z
unfolding width_of
width_within [] ys zs z l q = absurd (omega arith)
width_within (true ∷ xs) ys zs z l q = q
width_within (false ∷ xs) ys zs z l q =
    let (y, e, k) = one_less (width_of (xs ++ ys)) z q in
    rw (width_within xs ys zs y (omega arith) e, ← e) q

-- So one in the first octet is.
width_alike : (z : ℕ) (s t : List ℕ) → z < 8 → z < length s → take (suc z) s ≡ take (suc z) t
    → width_of (bits s) ≡ zeros z → width_of (bits t) ≡ zeros z
unfolding bits octet_bits
width_alike z [] t m l q w = absurd (omega arith)
width_alike z (a ∷ s) [] m l q w = let x : ◌≡◌ {A = ℕ} 0 1 = cc in absurd (omega arith)
width_alike z (a ∷ s) (b ∷ t) m l q w =
    let e : a ≡ b = cc in
    rw e at (width_within (octet_bits a) (bits s) (bits t) z m w)

vint_alike : (most n v : ℕ) (s t : List ℕ) → most ≤ 8 → vint_of most s ≡ vint n v → take n s ≡ take n t
    → vint_of most t ≡ vint n v
unfolding vint_of of_width
vint_alike most n v s t m q k =
    let o = made most n v s (width_of (bits s)) q in
    let z = o.z in
    let few = o.few in
    let there = o.there in
    let octets = o.octets in
    let value = o.value in
    let k' : take (z + 1) s ≡ take (z + 1) t = rw octets at k in
    let e : z + 1 ≡ suc z = omega arith in
    let w = width_alike z s t (omega arith) (omega arith) (rw e at k') o.width in
    rw (w, lt-ltb z most few, le-leb (z + 1) (length t) (as_many s t (z + 1) there k'), ← k') cc

-- ---- a header

pub heading_alike : (s t : List ℕ) (h : Header) → header_of s ≡ heading h → take h.length s ≡ take h.length t
    → header_of t ≡ heading h
unfolding header_of named sized
heading_alike s t h q k = by_name (vint_of 4 s) refl q
  where
    by_size : (id n : ℕ) → vint_of 4 s ≡ vint n id → (v : Vint) → vint_of 8 (drop n s) ≡ v → sized id n v ≡ heading h
        → named t (vint_of 4 t) ≡ heading h
    by_size id n a (vint m value) b w =
        let l : h.length ≡ n + m = cc in
        let r = rw l at k in
        let x = vint_alike 4 n id s t (omega arith) a (fewer_alike s t n (n + m) (omega arith) r) in
        let y = vint_alike 8 m value (drop n s) (drop n t) (omega arith) b (later_alike s t n m r) in
        rw (x, y) w
    by_size id n a ends b w = let x : ◌≡◌ {A = ℕ} 0 1 = cc in absurd (omega arith)
    by_size id n a long b w = let x : ◌≡◌ {A = ℕ} 0 1 = cc in absurd (omega arith)

    by_name : (v : Vint) → vint_of 4 s ≡ v → named s v ≡ heading h → named t (vint_of 4 t) ≡ heading h
    by_name (vint n id) a w = by_size id n a (vint_of 8 (drop n s)) refl w
    by_name ends a w = let x : ◌≡◌ {A = ℕ} 0 1 = cc in absurd (omega arith)
    by_name long a w = let x : ◌≡◌ {A = ℕ} 0 1 = cc in absurd (omega arith)

pub header_moves : HeaderMoves
unfolding header_at header_read
header_moves s t at at' h q k =
    rw (heading_alike (drop at s) (drop at' t) h (header_read_law s at (headed_at at h) q).0 k)
