-- `answer_lines`: a line lies in what was read, and each turn is nearer to its end.
use Rattle.std.proofs.Common.{◌-◌, ◌≤◌, length}
use Rattle.ask.proofs.stream.answer_lines.Given as goal

abbrev pub invariant-loop-end : goal.invariant-loop-end
invariant-loop-end l = (l.from ≤ l.seen) × (l.seen ≤ length l.read)

abbrev pub decreases-loop-end : goal.decreases-loop-end
decreases-loop-end l = length l.read - l.seen
