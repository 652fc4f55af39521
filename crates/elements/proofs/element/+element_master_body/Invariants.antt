-- The measures of the cycle of `element` and `master_body`, and what the loop over the elements of a master keeps: two
-- calls a depth, and each element takes a byte at least.
use Rattle.std.proofs.Common.{◌+◌, ◌-◌, ◌*◌, ◌/◌, length}
use Rattle.elements_rules.specs.Reading.{depths, element as element_in}
use Rattle.elements_rules.specs.Rows.{width}
use Rattle.elements_rules.proofs.Reading.{Going}
use Rattle.elements.proofs.element.+element_master_body.Given as goal

abbrev pub decreases-element : goal.decreases-element
decreases-element l = 2 * (depths - l.above.depth)

abbrev pub decreases-master_body : goal.decreases-master_body
decreases-master_body l = 2 * (depths - l.above.depth) + 1

abbrev pub invariant-master_body-loop-left : goal.invariant-master_body-loop-left
invariant-master_body-loop-left l =
    Going l.recording l.fn.table l.mode
    (element_in l.recording l.mode (length l.fn.table / width) (depths - l.above.depth) l.above.id)
    l.above.row l.above.depth l.initial.place.at l.size l.first l.table l.place l.left l.rows

abbrev pub decreases-master_body-loop-left : goal.decreases-master_body-loop-left
decreases-master_body-loop-left l = l.left
