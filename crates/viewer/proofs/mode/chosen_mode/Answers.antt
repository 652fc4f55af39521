-- `chosen_mode` meets its contract: an arm for each mode. Assumes nothing.
use Rattle.std.proofs.Common.{arith}
use Rattle.std.proofs.lemmas.Bool.Decides.{nat_tests}
use Rattle.viewer_rules.specs.Modes.{chosen_mode}
use Rattle.viewer.proofs.mode.chosen_mode.Goals as goal

pub returns-in-0 : goal.returns-in-0
unfolding chosen_mode
returns-in-0 c = rw c.in-0.is

pub returns-in-1 : goal.returns-in-1
unfolding chosen_mode
returns-in-1 c = rw c.in-1.is

pub returns-in_default : goal.returns-in_default
unfolding chosen_mode
returns-in_default c = grind (arith, nat_tests)
