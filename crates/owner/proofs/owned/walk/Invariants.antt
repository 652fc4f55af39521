-- What the loop of `walk` keeps: the answer is what is found from the place on, and the address lies there.
use Rattle.owner_rules.proofs.Walking.{Walking}
use Rattle.owner.proofs.owned.walk.Given as goal

abbrev pub invariant-loop-left : goal.invariant-loop-left
invariant-loop-left l = Walking l.live l.recording l.start l.size l.parent l.address l.initial.chain l.chain l.place.at l.left l.above l.depth

abbrev pub decreases-loop-left : goal.decreases-loop-left
decreases-loop-left l = l.left
