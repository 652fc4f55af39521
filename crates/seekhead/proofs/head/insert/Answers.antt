-- `insert`: the table with one more entry. Assumes nothing.
use mathlib.Core.Path.{refl}
use Rattle.seekhead_rules.specs.Table.{latest_from}
use Rattle.seekhead.proofs.head.insert.Goals as goal

pub returns : goal.returns
unfolding latest_from
returns c = rw (c.later_each.ensures, c.later.ensures) refl
