-- `walk`: the segment's children in turn. Assumes nothing.
use mathlib.Core.Path.{◌≡◌}
use Rattle.walks_rules.specs.Endings.{room_of}
use Rattle.segments_rules.specs.Segment.{segment_children_from, segment_children}
use Rattle.segments.proofs.walk.walk.Given as goal

abbrev pub invariant-loop-child : goal.invariant-loop-child
invariant-loop-child l =
    segment_children l.live l.recording l.wanted l.segment
    ≡ segment_children_from l.live l.recording l.wanted l.segment l.at

abbrev pub decreases-loop-child : goal.decreases-loop-child
decreases-loop-child l = room_of l.recording l.stretch l.at
