-- `asked_of` meets its contract: after each word the counts are within their rooms. Assumes nothing.
use Rattle.questions.specs.Bounds.{Lent}
use Rattle.questions.proofs.asked.asked_of.Given as goal

abbrev pub invariant-loop-letter : goal.invariant-loop-letter
invariant-loop-letter l = Lent l.asked
