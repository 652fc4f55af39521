-- `vint_data` meets its contract: the shift makes 2 ^ (7 * octets). Assumes nothing.
use native.Mathlib.Omega.{arith}
use Prim.Native.Nat.{◌*◌}
use Rattle.header.proofs.Data.{shifted_one, shifted_pos}
use Rattle.header.proofs.cursor.vint_data.Goals as goal

pub nonzero_rem-result : goal.nonzero_rem-result
nonzero_rem-result c = shifted_pos (7 * c.args.octets) (omega arith)

pub returns : goal.returns
returns c = rw (shifted_one (7 * c.args.octets) (omega arith))
