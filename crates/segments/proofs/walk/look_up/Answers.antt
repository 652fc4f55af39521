-- `look_up`: the segment, then the walk over its children. Assumes nothing.
use Rattle.booleans.proofs.Handed.{handed}
use mathlib.Core.Path.{refl, sym, ◌∙◌}
use Rattle.segments_rules.specs.Segment.{lookup_of}
use Rattle.segments_rules.proofs.Walks.{segment_there}
use Rattle.segments.proofs.walk.look_up.Goals as goal

pub walk-requires : goal.walk-requires
walk-requires c =
    record {
      small = c.requires;
      there = segment_there _ _ _ (sym c.segment_of.ensures ∙ c.in_ok-segment.was);
    }

pub returns-in_err-segment : goal.returns-in_err-segment
unfolding lookup_of
returns-in_err-segment c =
    handed _ c.from_residual.ensures.1 ∙ rw (sym c.segment_of.ensures ∙ c.in_err-segment.was) refl

pub returns : goal.returns
unfolding lookup_of
returns c =
    rw (sym c.segment_of.ensures ∙ c.in_ok-segment.was) c.walk.ensures
