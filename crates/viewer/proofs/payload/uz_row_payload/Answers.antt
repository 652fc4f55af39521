-- `uz_row_payload` meets its contract: the face of the reply of `payload_range`. Assumes nothing.
use Rattle.viewer_rules.proofs.Crossing.{range_crosses}
use Rattle.viewer.proofs.payload.uz_row_payload.Goals as goal

pub returns : goal.returns
returns c = rw c.range_face.ensures (range_crosses _ _ _ _ c.payload_range.ensures)
