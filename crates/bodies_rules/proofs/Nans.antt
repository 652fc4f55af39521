-- A NaN's pattern by one comparison: every such pattern is the one NaN. Assumes nothing.
use mathlib.Core.Path.{◌≡◌, refl, ◌∙◌, sym}
use mathlib.Core.Bool.{true, not}
use Prim.Native.Nat.{ℕ, ◌%◌, ◌*◌, ◌≤◌, ◌<◌}
use native.Mathlib.Omega.{arith}
use lib.Dec.{T}
use lib.Ieee.{Float, nan, inf, fin, Format, is_nan, nan_bits, of_bits, ones, hid, top, div, binary64}
use lib.Ieee.Bits.{nan_bits_is, nan_bits_above}
use borrow.Author.Tests.{lt-ltb, le-ltb}

is_nan_law : (x : Float) → is_nan x ≡ true → nan ≡ x
unfolding is_nan
is_nan_law nan e = refl
is_nan_law (inf s) e = let z : ◌≡◌ {A = ℕ} 0 1 = cc in absurd (omega arith)
is_nan_law (fin s m x) e = let z : ◌≡◌ {A = ℕ} 0 1 = cc in absurd (omega arith)

-- Above the pattern of infinity, the sign put aside, stand the NaNs.
pub nan_pattern : (f : Format) (n : ℕ) → ones f * hid f < n % top f → nan ≡ of_bits f n
nan_pattern f n h = is_nan_law (of_bits f n) (sym (nan_bits_is f n) ∙ nan_bits_above f n ∙ lt-ltb _ _ h)

pub no_nan : (f : Format) (n : ℕ) → n % top f ≤ ones f * hid f → T (not (nan_bits f n))
no_nan f n h = rw (nan_bits_above f n, le-ltb (ones f * hid f) (n % top f) h) tt

-- 0.0 / 0.0, as the machine has it.
pub zero_by_zero : div binary64 (of_bits binary64 0) (of_bits binary64 0) ≡ nan
unfolding div of_bits
zero_by_zero = refl
