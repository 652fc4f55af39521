-- `uz_shown_text` meets its contract: the face of the reply of `text_range`. Assumes nothing.
use Rattle.viewer_rules.proofs.Crossing.{text_crosses}
use Rattle.viewer.proofs.text.uz_shown_text.Goals as goal

pub returns : goal.returns
returns c = rw c.range_face.ensures (text_crosses _ _ _ _ c.text_range.ensures)
