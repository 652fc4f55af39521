-- `later_each`: the positions of the wanted ids, after one more entry. Assumes nothing.
use mathlib.Core.Path.{refl}
use Rattle.seekhead_rules.specs.Table.{latest_from, positions_from}
use Rattle.seekhead.proofs.head.later_each.Goals as goal

pub returns : goal.returns
unfolding latest_from positions_from
returns c =
    rw (
      c.later.ensures,
      c.later-2.ensures,
      c.later-3.ensures,
      c.later-4.ensures,
      c.later-5.ensures,
    )
    refl
