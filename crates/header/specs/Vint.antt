-- The variable-size integer (VINT) of RFC 8794, section 4, at the head of some octets.
use Rattle.std.specs.Prelude.{ℕ, suc, ◌+◌, ◌*◌, ◌/◌, ◌%◌, ◌^◌, List, [], ◌∷◌, ◌++◌, Bool, true, false, cond, length, take, ltb, leb, eqb}

-- The bit of weight 2 ^ k of an octet.
abbrev pub bit : ℕ → ℕ → Bool
bit b k = eqb (b / 2 ^ k % 2) 1

-- The bits of an octet, the highest first.
unfoldable pub octet_bits : ℕ → List Bool
octet_bits b = bit b 7 ∷ bit b 6 ∷ bit b 5 ∷ bit b 4 ∷ bit b 3 ∷ bit b 2 ∷ bit b 1 ∷ bit b 0 ∷ []

-- The bits of the octets, in order.
unfoldable pub bits : List ℕ → List Bool
bits [] = []
bits (b ∷ bs) = octet_bits b ++ bits bs

-- VINT_WIDTH (4.1): how many zero bits stand before the VINT_MARKER, the first one bit (4.2). Without a one
-- bit there is none.
pub data Width : Type 0 where
  unmarked : Width
  zeros : ℕ → Width

unfoldable pub one_more : Width → Width
one_more unmarked = unmarked
one_more (zeros z) = zeros (suc z)

unfoldable pub width_of : List Bool → Width
width_of [] = unmarked
width_of (true ∷ bs) = zeros 0
width_of (false ∷ bs) = one_more (width_of bs)

-- Octets as one big-endian number, behind a number that stands before them.
unfoldable pub big_endian_from : ℕ → List ℕ → ℕ
big_endian_from a [] = a
big_endian_from a (b ∷ bs) = big_endian_from (a * 256 + b) bs

unfoldable pub big_endian : List ℕ → ℕ
big_endian bs = big_endian_from 0 bs

-- A VINT of up to some count of octets.
pub data Vint : Type 0 where
  -- its octets, and all their bits as one number, the marker included
  vint : ℕ → ℕ → Vint
  -- the octets end before the marker, or before the last octet of the VINT
  ends : Vint
  -- the marker stands too far back: the VINT has more octets than it may
  long : Vint

-- VINT_WIDTH and VINT_MARKER have together as many bits as the VINT has octets (4.1).
unfoldable pub of_width : ℕ → List ℕ → Width → Vint
of_width most s unmarked = ends
of_width most s (zeros z) =
    cond (ltb z most)
    (cond (leb (z + 1) (length s)) (vint (z + 1) (big_endian (take (z + 1) s))) ends)
    long

-- The VINT of at most `most` octets at the head of the octets s.
unfoldable pub vint_of : ℕ → List ℕ → Vint
vint_of most s = of_width most s (width_of (bits s))

-- VINT_DATA (4.3): 7 bits for each octet, the lowest of the number that its octets are.
abbrev pub vint_data : ℕ → ℕ → ℕ
vint_data octets value = value % 2 ^ (7 * octets)
