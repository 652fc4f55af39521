-- `is_barred` meets its contract. Assumes nothing.
use Rattle.std.proofs.Common.{arith}
use Rattle.std.proofs.lemmas.Bool.Decides.{nat_tests}
use Rattle.walks_rules.specs.Step.{barred_step}
use Rattle.walks.proofs.step.is_barred.Goals as goal

pub returns-then-is_unknown : goal.returns-then-is_unknown
unfolding barred_step
returns-then-is_unknown c = grind (arith, nat_tests)

pub returns-else-is_unknown : goal.returns-else-is_unknown
unfolding barred_step
returns-else-is_unknown c = grind (arith, nat_tests)
