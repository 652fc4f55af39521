-- Whether an address exceeds 2^64-1. Assumes nothing.
use Prim.Native.Nat.{ℕ, ◌+◌, ◌-◌, ◌≤◌}
use mathlib.Core.Path.{◌≡◌, refl, sym}
use mathlib.Core.Bool.{Bool, true, false}
use native.Mathlib.Omega.{arith}
use lib.Dec.{ltb}
use borrow.Author.Tests.{le-ltb, lt-ltb, ltb-true, ltb-false}
use Rattle.seekchain_rules.specs.Heads.{last_address, too_far}

-- The test for 8 that does not wrap.
pub too_far_law : (start position : ℕ) → start ≤ last_address
    → ltb (last_address - start) position ≡ ltb last_address (start + position)
too_far_law start position h = go (ltb (last_address - start) position) refl
  where
    go : (b : Bool) → ltb (last_address - start) position ≡ b → b ≡ ltb last_address (start + position)
    go true q =
        let w = ltb-true (last_address - start) position q in
        sym (lt-ltb last_address (start + position) (omega arith))
    go false q =
        let w = ltb-false (last_address - start) position q in
        sym (le-ltb last_address (start + position) (omega arith))

pub near : (start position : ℕ) → too_far start position ≡ false → start + position ≤ last_address
near start position q = ltb-false last_address (start + position) q
