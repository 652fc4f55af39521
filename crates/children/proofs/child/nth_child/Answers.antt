-- `nth_child` meets its contract. Assumes nothing.
use Rattle.std.proofs.lemmas.Iterator.Consumers.{nth_from_yields_List}
use Rattle.children.specs.Left.{left}
use Rattle.children.proofs.Drained.{shown, picked}
use Rattle.children.proofs.child.nth_child.Goals as goal

pub returns : goal.returns
returns c = picked _ _ _ (nth_from_yields_List _ c.nth.new.self _ c.nth.ensures.ran (shown left c.of.ensures))
