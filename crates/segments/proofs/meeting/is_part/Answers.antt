-- `is_part` meets its contract: the library's search of the ids is the definition's. Assumes nothing.
use mathlib.Core.Path.{◌∙◌}
use Rattle.segments_rules.specs.Segment.{part_ids}
use Rattle.seekchain_rules.proofs.Seen.{any_member}
use Rattle.segments.proofs.meeting.is_part.Goals as goal

pub returns : goal.returns
returns c = c.contains.ensures.value ∙ any_member c.args.id part_ids
