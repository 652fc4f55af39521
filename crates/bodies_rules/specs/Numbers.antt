-- Integers and floats as RFC 8794 stores them (sections 7.1, 7.2, 7.3 and 7.6); octets are big-endian.
use Rattle.std.specs.Prelude.{ℕ, ◌*◌, ◌^◌, cond, ltb, eqb, ℤ, pos, ◌-ℤ◌, Float}
use Rattle.std.specs.Float.{binary32, binary64}
use Rattle.std.specs.Float.Ieee.{of_bits}

-- A signed integer (7.1) of n octets that are the number v: two's complement, so where the first bit is set the
-- number is v less 2 ^ (8 n).
unfoldable pub signed_of : ℕ → ℕ → ℤ
signed_of n v = cond (ltb (2 * v) (2 ^ (8 * n))) (pos v) (pos v -ℤ pos (2 ^ (8 * n)))

-- A float (7.3) of 4 or 8 octets: the two formats of IEEE 754.
unfoldable pub float_of : ℕ → ℕ → Float
float_of n v = cond (eqb n 4) (of_bits binary32 v) (of_bits binary64 v)
