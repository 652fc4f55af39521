-- `last_child` meets its contract. Assumes nothing.
use Rattle.children.specs.Left.{left}
use Rattle.children.proofs.Drained.{last_is}
use Rattle.children.proofs.child.last_child.Goals as goal

pub returns : goal.returns
returns c = last_is left c.of.ensures c.last.ensures.ran
