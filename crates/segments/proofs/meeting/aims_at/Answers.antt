-- `aims_at` meets its contract. Assumes nothing.
use mathlib.Core.Path.{refl}
use Rattle.segments_rules.specs.Segment.{aims_at}
use Rattle.segments.proofs.meeting.aims_at.Goals as goal

pub returns-in-One : goal.returns-in-One
unfolding aims_at
returns-in-One c = rw c.in-One.is refl

pub returns-in-Every : goal.returns-in-Every
unfolding aims_at
returns-in-Every c = rw c.in-Every.is c.is_part.ensures
