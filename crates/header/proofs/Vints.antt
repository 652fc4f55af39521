-- What a VINT is, by how many octets its width asks for. Assumes nothing.
use mathlib.Core.Path.{◌≡◌, refl, ap, sym, subst}
use mathlib.Core.List.{List}
use mathlib.Core.Bool.{Bool, true, false, cond}
use Prim.Native.Nat.{ℕ, ◌+◌, ◌≤◌, ◌<◌}
use native.Mathlib.Omega.{arith}
use lib.ListN.{length, take, drop, length-drop}
use lib.Dec.{leb, ltb}
use borrow.Author.Tests.{lt-ltb, le-ltb, le-leb, lt-leb, leb-true, leb-false, ltb-false}
use Rattle.header.specs.Vint.{Width, unmarked, zeros, big_endian, vint, ends, long, of_width, vint_of}
use Rattle.header.specs.Reads.{width_at, octets_of, number_at, vint_read, vint_at}
use Rattle.header.specs.declared.cursor.Vint.{Vint as VintRead}
use Rattle.header.specs.declared.cursor.VintFault.{VintFault}
use Rattle.header.specs.declared.cursor.VintFault.TheVariants.{Ends, Long}
use Rattle.std.proofs.Common.{Option, Some, None, Result, Ok, Err}
use Rattle.std.specs.Prelude.{ok_or}
use Rattle.header.specs.declared.cursor.Cursor.{Cursor}

-- a width of n octets
zeros_of : (w : Width) (n : ℕ) → octets_of w ≡ Ok n → (z : ℕ) × (w ≡ zeros z) × (n ≡ z + 1)
unfolding octets_of
zeros_of unmarked n h = absurd cc
zeros_of (zeros z) n h = go (ltb z 8) h
  where
    go : (b : Bool) → cond b (Ok (z + 1)) (Err Long) ≡ Ok n → (k : ℕ) × (zeros z ≡ zeros k) × (n ≡ k + 1)
    go true q = (z, refl, cc)
    go false q = absurd cc

module _ (most : ℕ) (s : List ℕ) (z : ℕ) where
  of_long : most ≤ z → of_width most s (zeros z) ≡ long
  unfolding of_width
  of_long h = rw (le-ltb z most h)

  of_short : z < most → length s < z + 1 → of_width most s (zeros z) ≡ ends
  unfolding of_width
  of_short h l = rw (lt-ltb z most h, lt-leb (z + 1) (length s) l)

  of_whole : z < most → z + 1 ≤ length s → of_width most s (zeros z) ≡ vint (z + 1) (big_endian (take (z + 1) s))
  unfolding of_width
  of_whole h l = rw (lt-ltb z most h, le-leb (z + 1) (length s) l)

-- a width of no octets, or of more than 8, is at fault whatever the most
of_fault : (at most : ℕ) (s : List ℕ) (w : Width) (e : VintFault) → most ≤ 8 → octets_of w ≡ Err e
    → vint_read at (of_width most s w) ≡ Err e
unfolding octets_of of_width vint_read
of_fault at most s unmarked e m h = let f : Ends ≡ e = cc in ap Err f
of_fault at most s (zeros z) e m h = go (ltb z 8) refl h
  where
    go : (b : Bool) → ltb z 8 ≡ b → cond b (Ok (z + 1)) (Err Long) ≡ Err e
        → vint_read at (of_width most s (zeros z)) ≡ Err e
    go true q k = absurd cc
    go false q k = let f : Long ≡ e = cc in rw (of_long most s z (omega (arith, ltb-false z 8 q))) (ap Err f)

-- ---- numbers at a place

pub number_ends : (s : List ℕ) (at n : ℕ) → length s < at + n → number_at s at n ≡ None
unfolding number_at
number_ends s at n h = rw (lt-leb (at + n) (length s) h)

pub number_there : (s : List ℕ) (at n : ℕ) → at + n ≤ length s
    → number_at s at n ≡ Some (big_endian (take n (drop at s)), record { at = at + n })
unfolding number_at
number_there s at n h = rw (le-leb (at + n) (length s) h)

-- ---- VINTs at a place

-- a VINT of n octets is the number of the n octets there, or ends with them
abbrev pub as_vint : ℕ → Option (ℕ × Cursor) → Result VintRead VintFault
as_vint n (Some (value, next)) = Ok (record { octets = n; value = value; next = next })
as_vint n None = Err Ends

-- what a number tells that is asked for by `ok_or`
pub as_ends : (n : ℕ) (o : Option (ℕ × Cursor)) (e : VintFault) → ok_or o Ends ≡ Err e → as_vint n o ≡ Err e
as_ends n None e h = let f : Ends ≡ e = cc in ap Err f
as_ends n (Some x) e h = absurd cc

pub as_there : (o : Option (ℕ × Cursor)) (value : ℕ) (next : Cursor) → ok_or o Ends ≡ Ok (value, next)
    → o ≡ Some (value, next)
as_there None value next h = absurd cc
as_there (Some x) value next h = let f : x ≡ (value, next) = cc in ap Some f

module _ (s : List ℕ) (at most : ℕ) (m : most ≤ 8) where
  pub vint_fault : (e : VintFault) → octets_of (width_at s at) ≡ Err e → vint_at s at most ≡ Err e
  unfolding vint_at vint_of
  vint_fault e h = of_fault at most (drop at s) (width_at s at) e m h

  pub vint_long : (n : ℕ) → octets_of (width_at s at) ≡ Ok n → most < n → vint_at s at most ≡ Err Long
  unfolding vint_at vint_of vint_read
  vint_long n h l =
      let (z, w, q) = zeros_of (width_at s at) n h in
      rw (w, of_long most (drop at s) z (omega arith))

  pub vint_number : (n : ℕ) → octets_of (width_at s at) ≡ Ok n → n ≤ most
      → vint_at s at most ≡ as_vint n (number_at s at n)
  unfolding vint_at vint_of vint_read
  vint_number n h k =
      let (z, w, q) = zeros_of (width_at s at) n h in
      rw w
      (subst (λ (k : ℕ). vint_read at (of_width most (drop at s) (zeros z)) ≡ as_vint k (number_at s at k)) (sym q)
      (go z (omega arith) (leb (at + (z + 1)) (length s)) refl))
    where
      go : (z : ℕ) → z < most → (b : Bool) → leb (at + (z + 1)) (length s) ≡ b
          → vint_read at (of_width most (drop at s) (zeros z)) ≡ as_vint (z + 1) (number_at s at (z + 1))
      go z h true e =
          let l : at + (z + 1) ≤ length s = leb-true (at + (z + 1)) (length s) e in
          let k : z + 1 ≤ length (drop at s) = simp length-drop (omega arith) in
          rw (number_there s at (z + 1) l, of_whole most (drop at s) z h k)
      go z h false e =
          let l : length s < at + (z + 1) = leb-false (at + (z + 1)) (length s) e in
          let k : length (drop at s) < z + 1 = simp length-drop (omega arith) in
          rw (number_ends s at (z + 1) l, of_short most (drop at s) z h k)
