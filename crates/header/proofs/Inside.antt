-- A header that was read has bytes, and they are in the recording. Assumes nothing.
use Prim.Native.Nat.{ℕ, ◌+◌, ◌*◌, ◌%◌, ◌^◌, ◌≤◌, ◌<◌}
use mathlib.Core.Path.{◌≡◌, refl, ap, sym, ◌∙◌}
use mathlib.Core.List.{List}
use mathlib.Core.Bool.{Bool, true, false, cond}
use native.Mathlib.Nat.{mod-lt}
use native.Mathlib.Omega.{arith}
use lib.ListN.{length, take, drop, length-drop}
use lib.Dec.{ltb, leb}
use lib.Pow.{pow_pos, pow_mono}
use borrow.Author.Tests.{ltb-true, leb-true}
use Rattle.header.specs.Vint.{Width, unmarked, zeros, width_of, bits, big_endian}
use Rattle.header.specs.Vint.{Vint, vint, ends, long, of_width, vint_of}
use Rattle.header.specs.Header.{Heading, heading, refused, sized, named, header_of}
use Rattle.header.specs.Reads.{headed_at, header_read, header_at}
use Rattle.header.specs.declared.cursor.Headed.{Headed}
use Rattle.header.specs.declared.cursor.Header.{Header}
use Rattle.refusals.specs.Refusals.{because}
use Rattle.refusals.specs.declared.refusal.Cause.{Cause}
use Rattle.refusals.specs.declared.refusal.Refusal.{Refusal}
use Rattle.std.proofs.Common.{Ok, Err}

-- what a VINT of z zero bits is made of
pub record Made (most : ℕ) (s : List ℕ) (w : Width) (n v : ℕ) : Type 0 where
  pub z : ℕ
  pub width : w ≡ zeros z
  pub few : z < most
  pub there : z + 1 ≤ length s
  pub octets : n ≡ z + 1
  pub value : v ≡ big_endian (take (z + 1) s)

pub made : (most n v : ℕ) (s : List ℕ) (w : Width) → of_width most s w ≡ vint n v → Made most s w n v
unfolding of_width
made most n v s unmarked q = let x : ◌≡◌ {A = ℕ} 0 1 = cc in absurd (omega arith)
made most n v s (zeros z) q = go (ltb z most) refl (leb (z + 1) (length s)) refl q
  where
    go : (b : Bool) → ltb z most ≡ b → (c : Bool) → leb (z + 1) (length s) ≡ c
        → cond b (cond c (vint (z + 1) (big_endian (take (z + 1) s))) ends) long ≡ vint n v
        → Made most s (zeros z) n v
    go true d true e w =
        let some = ltb-true z most d in
        let whole = leb-true (z + 1) (length s) e in
        record { z = z; width = refl; few = some; there = whole; octets = cc; value = cc }
    go true d false e w = let x : ◌≡◌ {A = ℕ} 0 1 = cc in absurd (omega arith)
    go false d c e w = let x : ◌≡◌ {A = ℕ} 0 1 = cc in absurd (omega arith)

-- how many octets a VINT has
vint_octets : (most n v : ℕ) (s : List ℕ) → vint_of most s ≡ vint n v → (1 ≤ n) × (n ≤ length s) × (n ≤ most)
unfolding vint_of
vint_octets most n v s q =
    let m = made most n v s (width_of (bits s)) q in
    omega (arith, m.octets, m.there, m.few)

-- The header at the head of some octets is one of them at least, and not more than there are.
pub heading_inside : (s : List ℕ) (h : Header) → header_of s ≡ heading h → (1 ≤ h.length) × (h.length ≤ length s)
unfolding header_of named sized
heading_inside s h = by_name (vint_of 4 s) refl
  where
    by_size : (id n : ℕ) → (1 ≤ n) × (n ≤ length s) → (v : Vint) → vint_of 8 (drop n s) ≡ v → sized id n v ≡ heading h
        → (1 ≤ h.length) × (h.length ≤ length s)
    by_size id n i (vint m value) e w =
        let o = vint_octets 8 m value (drop n s) e in
        let l = length-drop n s in
        let k : h.length ≡ n + m = cc in
        omega arith
    by_size id n i ends e w = let x : ◌≡◌ {A = ℕ} 0 1 = cc in absurd (omega arith)
    by_size id n i long e w = let x : ◌≡◌ {A = ℕ} 0 1 = cc in absurd (omega arith)

    by_name : (v : Vint) → vint_of 4 s ≡ v → named s v ≡ heading h → (1 ≤ h.length) × (h.length ≤ length s)
    by_name (vint n id) e w =
        let o = vint_octets 4 n id s e in
        by_size id n (o.0, o.1) (vint_of 8 (drop n s)) refl w
    by_name ends e w = let x : ◌≡◌ {A = ℕ} 0 1 = cc in absurd (omega arith)
    by_name long e w = let x : ◌≡◌ {A = ℕ} 0 1 = cc in absurd (omega arith)

-- Its size has at most 56 bits: eight octets of 7 bits each.
pub heading_sized : (s : List ℕ) (h : Header) → header_of s ≡ heading h → h.size < 2 ^ 56
unfolding header_of named sized
heading_sized s h = by_name (vint_of 4 s)
  where
    by_size : (id n : ℕ) (v : Vint) → vint_of 8 (drop n s) ≡ v → sized id n v ≡ heading h → h.size < 2 ^ 56
    by_size id n (vint m value) e w =
        let k : h.size ≡ value % 2 ^ (7 * m) = cc in
        let o = vint_octets 8 m value (drop n s) e in
        let low = mod-lt value (pow_pos (7 * m)) in
        let up = pow_mono {i = 7 * m} {j = 56} (omega arith) in
        omega arith
    by_size id n ends e w = let x : ◌≡◌ {A = ℕ} 0 1 = cc in absurd (omega arith)
    by_size id n long e w = let x : ◌≡◌ {A = ℕ} 0 1 = cc in absurd (omega arith)

    by_name : (v : Vint) → named s v ≡ heading h → h.size < 2 ^ 56
    by_name (vint n id) w = by_size id n (vint_of 8 (drop n s)) refl w
    by_name ends w = let x : ◌≡◌ {A = ℕ} 0 1 = cc in absurd (omega arith)
    by_name long w = let x : ◌≡◌ {A = ℕ} 0 1 = cc in absurd (omega arith)

module _ (s : List ℕ) (at : ℕ) where
  -- The same at a place.
  pub header_inside : (h : Header) → header_of (drop at s) ≡ heading h → (1 ≤ h.length) × (at + h.length ≤ length s)
  header_inside h q =
      let i = heading_inside (drop at s) h q in
      let l = length-drop at s in
      omega arith

  -- What a read header says of the octets at its place.
  pub header_read_law : (e : Headed) → header_at s at ≡ Ok e
      → (header_of (drop at s) ≡ heading e.header) × (e ≡ headed_at at e.header)
  unfolding header_at header_read
  header_read_law e = go (header_of (drop at s))
    where
      go : (x : Heading) → header_read at x ≡ Ok e → (x ≡ heading e.header) × (e ≡ headed_at at e.header)
      go (heading h) w =
          let q : headed_at at h ≡ e = cc in
          let k : h ≡ e.header = ap (λ (x : Headed). x.header) q in
          (ap heading k, sym q ∙ ap (headed_at at) k)
      go (refused c) w = let x : ◌≡◌ {A = ℕ} 0 1 = cc in absurd (omega arith)

  -- All that is known of an element whose header was read.
  pub record HeaderThere (e : Headed) : Type 0 where
    pub head : header_of (drop at s) ≡ heading e.header
    pub is : e ≡ headed_at at e.header
    pub begins : e.place.at ≡ at
    pub behind : e.payload.at ≡ at + e.header.length
    pub some : 1 ≤ e.header.length
    pub inside : e.payload.at ≤ length s
    pub sized : e.header.size < 2 ^ 56

  pub header_there : (e : Headed) → header_at s at ≡ Ok e → HeaderThere e
  header_there e q =
      let (h, n) = header_read_law e q in
      let i = header_inside e.header h in
      let b = ap (λ (x : Headed). x.payload.at) n in
      record {
        head = h;
        is = n;
        begins = ap (λ (x : Headed). x.place.at) n;
        behind = b;
        some = i.0;
        inside = omega arith;
        sized = heading_sized (drop at s) e.header h;
      }

  -- A header that is refused is refused by its own octets, at its place.
  pub header_refused : (e : Refusal) → header_at s at ≡ Err e
      → (header_of (drop at s) ≡ refused e.cause) × (because e.cause at ≡ e)
  unfolding header_at header_read
  header_refused e = go (header_of (drop at s))
    where
      go : (x : Heading) → header_read at x ≡ Err e → (x ≡ refused e.cause) × (because e.cause at ≡ e)
      go (heading h) w = let x : ◌≡◌ {A = ℕ} 0 1 = cc in absurd (omega arith)
      go (refused c) w =
          let q : because c at ≡ e = cc in
          let k = ap (λ (x : Refusal). x.cause) q in
          (ap refused k, ap (λ (x : Cause). because x at) (sym k) ∙ q)
