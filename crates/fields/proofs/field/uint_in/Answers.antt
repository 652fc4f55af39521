-- `uint_in` meets its contract: a sound number has at most 8 bytes. Assumes nothing.
use native.Mathlib.Omega.{arith}
use Rattle.fields_rules.proofs.Sizes.{uint_size}
use Rattle.fields.proofs.field.uint_in.Goals as goal

pub big_endian-requires : goal.big_endian-requires
big_endian-requires c =
    (uint_size _ _ c.requires, omega (arith, c.requires.sound.inside))
