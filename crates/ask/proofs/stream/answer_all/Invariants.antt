-- `answer_all`: there is room behind the unfinished line at each read.
use Rattle.ask.specs.Bounds.{Roomy}
use Rattle.ask.proofs.stream.answer_all.Given as goal

abbrev pub invariant-loop : goal.invariant-loop
invariant-loop l = Roomy l.held
