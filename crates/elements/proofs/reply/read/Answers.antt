-- `read` meets its contract: no row of the table is left out. Assumes nothing.
use Prim.Native.Nat.{◌*◌, ◌-◌, ◌≤◌}
use mathlib.Core.Path.{◌≡◌}
use native.Mathlib.Omega.{arith}
use lib.ListN.{length, drop_of_length-le}
use Rattle.elements.proofs.reply.read.Goals as goal

pub read_again-requires : goal.read_again-requires
read_again-requires c =
    let t = c.args.table.now in
    let e : length t - length t * 8 ≡ 0 = omega arith in
    let l : length t ≤ length t * 8 = omega arith in
    rw (drop_of_length-le t l, e)
