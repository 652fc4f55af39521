-- `is_text` meets its contract. Assumes nothing.
use Rattle.std.proofs.Common.{arith}
use Rattle.std.proofs.lemmas.Bool.Decides.{nat_tests}
use Rattle.shown_rules.specs.Shown.{is_text}
use Rattle.shown.proofs.text.is_text.Goals as goal

pub returns-then-kind-eq-STRING : goal.returns-then-kind-eq-STRING
unfolding is_text
returns-then-kind-eq-STRING c = grind (arith, nat_tests)

pub returns-else-kind-eq-STRING : goal.returns-else-kind-eq-STRING
unfolding is_text
returns-else-kind-eq-STRING c = grind (arith, nat_tests)
