-- `segment_of`: the file's elements in turn, up to the segment. Assumes nothing.
use Prim.Native.Nat.{◌-◌}
use mathlib.Core.Path.{◌≡◌}
use Rattle.segments_rules.specs.Segment.{segment_from, segment_of}
use Rattle.segments.proofs.segment.segment_of.Given as goal

abbrev pub invariant-loop-element : goal.invariant-loop-element
invariant-loop-element l = segment_of l.live l.recording ≡ segment_from l.live l.recording l.at

abbrev pub decreases-loop-element : goal.decreases-loop-element
decreases-loop-element l = l.end - l.at
