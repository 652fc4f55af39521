-- `is_child` meets its contract: an arm for each id. Assumes nothing.
use Rattle.std.proofs.Common.{arith}
use Rattle.std.proofs.lemmas.Bool.Decides.{nat_tests}
use Rattle.kinds.specs.Kinds.{member}
use Rattle.walks.proofs.ends.is_child.Goals as goal

pub returns-in-290298740 : goal.returns-in-290298740
unfolding member
returns-in-290298740 c = grind (arith, nat_tests)

pub returns-in_default : goal.returns-in_default
unfolding member
returns-in_default c = grind (arith, nat_tests)
