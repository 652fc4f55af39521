-- `meet`: the segment's children in turn, to the first that is met. Assumes nothing.
use mathlib.Core.Path.{◌≡◌}
use Rattle.walks_rules.specs.Endings.{room_of}
use Rattle.header.specs.declared.cursor.Headed.{Headed}
use Rattle.segments_rules.specs.Segment.{stretch_of, met_from}
use Rattle.segments.proofs.meeting.meet.Given as goal

abbrev pub invariant-loop-child : goal.invariant-loop-child
invariant-loop-child l = (segment : Headed) → l.stretch ≡ stretch_of l.live l.recording segment
    → met_from l.live l.recording l.aim segment l.from ≡ met_from l.live l.recording l.aim segment l.at

abbrev pub decreases-loop-child : goal.decreases-loop-child
decreases-loop-child l = room_of l.recording l.stretch l.at
