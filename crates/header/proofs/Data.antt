-- A power of two as the code makes it, by a shift. Assumes nothing.
use mathlib.Core.Path.{◌≡◌, ◌∙◌}
use Prim.Native.Nat.{ℕ, ◌*◌, ◌%◌, ◌^◌, ◌<◌}
use native.Mathlib.Omega.{arith}
use native.Mathlib.Nat.{one-mul}
use lib.Pow.{shl_exact, pow_pos}
use lib.Dec.{lit<}

pub shifted_one : (k : ℕ) → k < 64 → (1 * 2 ^ k) % 2 ^ 64 ≡ 2 ^ k
shifted_one k h = shl_exact 1 k 64 (lit< tt) (omega arith) ∙ one-mul (2 ^ k)

pub shifted_pos : (k : ℕ) → k < 64 → 0 < (1 * 2 ^ k) % 2 ^ 64
shifted_pos k h = rw (shifted_one k h) (pow_pos k)
