-- The octets of an accepted header are determined by its id, its size and its length (`Determined`).
-- Assumes nothing.
use Prim.Native.Nat.{ℕ, suc, ◌+◌, ◌-◌, ◌*◌, ◌%◌, ◌^◌, ◌≤◌, ◌<◌}
use mathlib.Core.Path.{◌≡◌, refl, sym, ap, ◌∙◌, subst}
use mathlib.Core.List.{List, [], ◌∷◌}
use mathlib.Core.Bool.{Bool, true, false}
use native.Mathlib.Omega.{arith}
use native.Mathlib.Numerals.{add-one}
use native.Mathlib.Nat.{mul-le-mul_right}
use lib.Arith.{digits_mod}
use lib.Pow.{pow-add, pow_mono}
use lib.Count.{count_leading_zeros, leading_top}
use lib.ListN.{length, take, drop, get_or}
use lib.Seq.{length-take-le, take-add}
use lib.Dec.{eqb}
use borrow.Author.Tests.{eqb-true, eqb-false}
use Rattle.header.specs.Vint.{Width, unmarked, zeros, one_more, width_of, bits, big_endian, big_endian_from}
use Rattle.header.specs.Vint.{Vint, vint, ends, long, vint_of, vint_data}
use Rattle.header.specs.Header.{heading, sized, named, header_of}
use Rattle.header.specs.Theorems.{Octets, Determined}
use Rattle.header.specs.declared.cursor.Header.{Header}
use Rattle.header.proofs.BigEndian.{octets_drop, octets_take, from_same, from_range}
use Rattle.header.proofs.Inside.{Made, made, header_read_law}
use Rattle.header.proofs.Widths.{eight, width_end, width_zero, width_one}

-- ---- a VINT that was read

-- the first octet of a VINT with fewer than 8 zero bits: the marker is its highest one bit
record First (s : List ℕ) (z : ℕ) : Type 0 where
  octet : ℕ
  rest : List ℕ
  is : s ≡ octet ∷ rest
  lo : 2 ^ (7 - z) ≤ octet
  hi : octet < 2 ^ (8 - z)

zeros_same : (a b : ℕ) → zeros a ≡ zeros b → a ≡ b
zeros_same a b q = cc

past_eight : (z : ℕ) → z < 8 → (w : Width) → eight w ≡ zeros z → ⊥
unfolding one_more
past_eight z l unmarked q = let x : ◌≡◌ {A = ℕ} 0 1 = cc in omega arith
past_eight z l (zeros y) q = let e = zeros_same _ z q in omega arith

first : (s : List ℕ) (z : ℕ) → Octets s → z < 8 → width_of (bits s) ≡ zeros z → First s z
first [] z o l q =
    let e = sym (width_end [] 0 (omega arith)) ∙ q in
    let x : ◌≡◌ {A = ℕ} 0 1 = cc in absurd (omega arith)
first (b ∷ bs) z o l q = go (eqb b 0) refl
  where
    go : (t : Bool) → eqb b 0 ≡ t → First (b ∷ bs) z
    go true e = absurd (past_eight z l _ (sym (width_zero (b ∷ bs) 0 (omega arith) (eqb-true b 0 e)) ∙ q))
    go false e =
        let u : b < 256 = o 0 in
        let n = eqb-false b 0 e in
        let w = sym (width_one (b ∷ bs) 0 (omega arith) u n) ∙ q in
        let k : count_leading_zeros 8 b ≡ z = zeros_same (count_leading_zeros 8 b) z w in
        let (j, i, lo, hi) = leading_top 8 b (omega arith) u in
        let c : 7 - z ≡ j = omega arith in
        let d : 8 - z ≡ suc j = omega arith in
        record { octet = b; rest = bs; is = refl; lo = rw c lo; hi = rw d hi }

-- a VINT of n octets and value v at the head of s: its marker is the highest bit of 7 * n + 1
pub record Number (s : List ℕ) (n v : ℕ) : Type 0 where
  pub some_octets : 1 ≤ n
  pub there : n ≤ length s
  pub value : v ≡ big_endian (take n s)
  pub low : 2 ^ (7 * n) ≤ v
  pub high : v < 2 ^ (7 * n + 1)

marker : (b z : ℕ) (bs : List ℕ) → Octets bs → z < 8 → z ≤ length bs → 2 ^ (7 - z) ≤ b → b < 2 ^ (8 - z)
    → (2 ^ (7 * (z + 1)) ≤ big_endian (take (suc z) (b ∷ bs)))
    × (big_endian (take (suc z) (b ∷ bs)) < 2 ^ (7 * (z + 1) + 1))
unfolding big_endian big_endian_from
marker b z bs o l k lo hi =
    let len : length (take z bs) ≡ z = length-take-le z bs k in
    let r = from_range (take z bs) (0 * 256 + b) (octets_take bs o z) in
    let (r0, r1) = rw len at r in
    let p = 2 ^ (8 * z) in
    let a = mul-le-mul_right {m = 2 ^ (7 - z)} {n = 0 * 256 + b} p (omega arith) in
    let c = mul-le-mul_right {m = 0 * 256 + b + 1} {n = 2 ^ (8 - z)} p (omega arith) in
    let e : 7 * (z + 1) ≡ 7 - z + 8 * z = omega arith in
    let d : 7 * (z + 1) + 1 ≡ 8 - z + 8 * z = omega arith in
    (rw (e, pow-add 2 (7 - z) (8 * z)) (omega arith), rw (d, pow-add 2 (8 - z) (8 * z)) (omega arith))

number : (most n v : ℕ) (s : List ℕ) (w : Width) → Octets s → most ≤ 8 → (m : Made most s w n v) → First s m.z
    → Number s n v
number most n v s w o k m a =
    let z = m.z in
    let g : Octets a.rest = λ i. subst (λ (y : List ℕ). get_or y (suc i) 0 < 256) a.is (o (suc i)) in
    let h : suc (length a.rest) ≡ length s = sym (ap length a.is) in
    let t : v ≡ big_endian (take (suc z) (a.octet ∷ a.rest)) =
    m.value
    ∙ ap (λ (y : ℕ). big_endian (take y s)) (add-one z)
    ∙ ap (λ (y : List ℕ). big_endian (take (suc z) y)) a.is in
    let r = marker a.octet z a.rest g (omega (arith, m.few)) (omega (arith, m.there)) a.lo a.hi in
    record {
      some_octets = omega (arith, m.octets);
      there = omega (arith, m.octets, m.there);
      value = rw m.octets m.value;
      low = rw (m.octets, t) r.0;
      high = rw (m.octets, t) r.1;
    }

vint_few : (most n v : ℕ) (s : List ℕ) → vint_of most s ≡ vint n v → n ≤ most
unfolding vint_of
vint_few most n v s q = let m = made most n v s (width_of (bits s)) q in omega (arith, m.octets, m.few)

of_vint : (most n v : ℕ) (s : List ℕ) → Octets s → most ≤ 8 → vint_of most s ≡ vint n v → Number s n v
unfolding vint_of
of_vint most n v s o k q =
    let m = made most n v s (width_of (bits s)) q in
    number most n v s (width_of (bits s)) o k m (first s m.z o (omega (arith, m.few)) m.width)

-- the value with its marker determines the length
number_length : (s t : List ℕ) (n m v : ℕ) → Number s n v → Number t m v → n ≡ m
number_length s t n m v a b =
    let u : n < m → ⊥ = λ h. omega (arith, pow_mono {i = 7 * n + 1} {j = 7 * m} (omega arith), a.high, b.low) in
    let w : m < n → ⊥ = λ h. omega (arith, pow_mono {i = 7 * m + 1} {j = 7 * n} (omega arith), b.high, a.low) in
    omega (arith, u, w)

-- value and length determine the octets
number_octets : (s t : List ℕ) (n v : ℕ) → Octets s → Octets t → Number s n v → Number t n v → take n s ≡ take n t
unfolding big_endian
number_octets s t n v f g a b =
    (from_same (take n s) (take n t) 0 0 (octets_take s f n) (octets_take t g n)
    (length-take-le n s a.there ∙ sym (length-take-le n t b.there))
    (sym a.value ∙ b.value)
    ).1

-- VINT_DATA and the length determine the value
pub number_value : (s : List ℕ) (n v : ℕ) → Number s n v → v ≡ 2 ^ (7 * n) + vint_data n v
number_value s n v a =
    let p = 2 ^ (7 * n) in
    let d : 2 ^ (7 * n + 1) ≡ p * 2 = pow-add 2 (7 * n) 1 in
    let l : v - p < p = omega (arith, a.high, a.low) in
    let e : v ≡ 1 * p + (v - p) = omega (arith, a.low) in
    let r : v % p ≡ v - p = ap (λ (y : ℕ). y % p) e ∙ digits_mod 1 {m = p} {r = v - p} l in
    omega (arith, a.low)

-- ---- a header that was read

-- its id of n octets and its size of m, each as a VINT
pub record Parts (s : List ℕ) (h : Header) : Type 0 where
  pub n : ℕ
  pub m : ℕ
  pub v : ℕ
  pub named : Number s n h.id
  pub sized : Number (drop n s) m v
  pub few : n ≤ 4
  pub short : m ≤ 8
  pub size : h.size ≡ vint_data m v
  pub long : h.length ≡ n + m

pub parts : (s : List ℕ) → Octets s → (h : Header) → header_of s ≡ heading h → Parts s h
unfolding header_of named sized
parts s o h = name (vint_of 4 s) refl
  where
    sizes : (n id : ℕ) → Number s n id → n ≤ 4 → (y : Vint) → vint_of 8 (drop n s) ≡ y → sized id n y ≡ heading h
        → Parts s h
    sizes n id a l ends e w = let x : ◌≡◌ {A = ℕ} 0 1 = cc in absurd (omega arith)
    sizes n id a l long e w = let x : ◌≡◌ {A = ℕ} 0 1 = cc in absurd (omega arith)
    sizes n id a l (vint m v) e w =
        let k : record { id = id; size = vint_data m v; length = n + m } ≡ h = cc in
        record {
          n = n;
          m = m;
          v = v;
          named = subst (Number s n) (ap (λ (y : Header). y.id) k) a;
          sized = of_vint 8 m v (drop n s) (octets_drop s o n) (omega arith) e;
          few = l;
          short = vint_few 8 m v (drop n s) e;
          size = sym (ap (λ (y : Header). y.size) k);
          long = sym (ap (λ (y : Header). y.length) k);
        }

    name : (x : Vint) → vint_of 4 s ≡ x → named s x ≡ heading h → Parts s h
    name ends e w = let x : ◌≡◌ {A = ℕ} 0 1 = cc in absurd (omega arith)
    name long e w = let x : ◌≡◌ {A = ℕ} 0 1 = cc in absurd (omega arith)
    name (vint n id) e w =
        sizes n id (of_vint 4 n id s o (omega arith) e) (vint_few 4 n id s e) (vint_of 8 (drop n s)) refl w

joined : (s t : List ℕ) → Octets s → Octets t → (id n m v : ℕ) → Number s n id → Number t n id
    → Number (drop n s) m v → Number (drop n t) m v → take (n + m) s ≡ take (n + m) t
joined s t f g id n m v a b c d =
    take-add n m s
    ∙ rw (
      number_octets s t n id f g a b,
      number_octets (drop n s) (drop n t) m v (octets_drop s f n) (octets_drop t g n) c d,
    )
    (sym (take-add n m t))

same_octets : (s t : List ℕ) → Octets s → Octets t → (h : Header)
    → header_of s ≡ heading h → header_of t ≡ heading h
    → take h.length s ≡ take h.length t
same_octets s t f g h q r =
    let a = parts s f h q in
    let b = parts t g h r in
    let e : b.n ≡ a.n = number_length t s b.n a.n h.id b.named a.named in
    let d : b.m ≡ a.m = omega (arith, a.long, b.long) in
    let va : a.v ≡ 2 ^ (7 * a.m) + h.size =
    number_value (drop a.n s) a.m a.v a.sized ∙ ap (λ (y : ℕ). 2 ^ (7 * a.m) + y) (sym a.size) in
    let vb : b.v ≡ 2 ^ (7 * b.m) + h.size =
    number_value (drop b.n t) b.m b.v b.sized ∙ ap (λ (y : ℕ). 2 ^ (7 * b.m) + y) (sym b.size) in
    let w : b.v ≡ a.v = vb ∙ ap (λ (y : ℕ). 2 ^ (7 * y) + h.size) d ∙ sym va in
    let c = subst (λ (y : ℕ). Number t y h.id) e b.named in
    let k = subst (λ (y : ℕ). Number (drop a.n t) a.m y) w
    (subst (λ (y : ℕ). Number (drop a.n t) y b.v) d
    (subst (λ (y : ℕ). Number (drop y t) b.m b.v) e b.sized)) in
    rw a.long (joined s t f g h.id a.n a.m a.v a.named c a.sized k)

-- ---- the same at places of two recordings

pub header_determined : Determined
header_determined s t f g a b x y q r same =
    same_octets (drop a s) (drop b t) (octets_drop s f a) (octets_drop t g b) x.header
    (header_read_law s a x q).0
    (subst (λ (h : Header). header_of (drop b t) ≡ heading h) (sym same) (header_read_law t b y r).0)
