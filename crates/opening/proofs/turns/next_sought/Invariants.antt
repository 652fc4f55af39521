-- `next_sought`: the parts in their order, to the next that an entry names. Assumes nothing.
use Rattle.std.proofs.Common.{length}
use Rattle.open_rules.proofs.Going.{Seeks}
use Rattle.opening.proofs.turns.next_sought.Given as goal

abbrev pub invariant-loop-left : goal.invariant-loop-left
invariant-loop-left l = Seeks l.live l.recording l.seeking l.parts l.left

abbrev pub decreases-loop-left : goal.decreases-loop-left
decreases-loop-left l = length l.left
