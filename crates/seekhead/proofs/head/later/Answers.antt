-- `later`: the latest position of an id, after one more entry. Assumes nothing.
use Rattle.seekhead_rules.proofs.PositionLaws.{later_same, later_other}
use Rattle.seekhead.proofs.head.later.Goals as goal

pub returns-then-seek-id : goal.returns-then-seek-id
returns-then-seek-id c =
    later_same c.args.id c.args.old c.args.seek c.if-seek-id.true

pub returns-else-seek-id : goal.returns-else-seek-id
returns-else-seek-id c =
    later_other c.args.id c.args.old c.args.seek c.if-seek-id.false
