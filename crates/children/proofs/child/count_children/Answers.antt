-- `count_children` meets its contract: there are no more children than rows. Assumes nothing.
use mathlib.Core.Logic.{inl}
use Rattle.std.proofs.Common.{arith, ap, length}
use Rattle.children.proofs.Drained.{as_many}
use Rattle.children.proofs.child.count_children.Goals as goal

pub count-requires-clause-fits : goal.count-requires-clause-fits
count-requires-clause-fits c =
    let most = as_many c.args.table.now c.args.master c.args.id c.args.kind in
    let all = ap length c.of.ensures in
    inl (omega (arith, most, all, c.requires.held))
