-- `last_four`: the last four bytes of a payload, or all of them. Assumes nothing.
use mathlib.Core.Path.{◌∙◌}
use Rattle.header.proofs.BigEndian.{fits_in}
use Rattle.seekhead_rules.proofs.PositionLaws.{few, last_octets}
use Rattle.seekhead.proofs.seek.last_four.Goals as goal

pub overflow_cast-result : goal.overflow_cast-result
overflow_cast-result c =
    record { fits = fits_in _ 4 _ (few _ _ c.min-n.ensures).1 c.big_endian.ensures.1 }

pub returns : goal.returns
returns c = c.big_endian.ensures.0 ∙ rw c.min-n.ensures (last_octets _ _ _)
