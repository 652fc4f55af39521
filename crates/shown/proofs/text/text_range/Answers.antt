-- `text_range` meets its contract: so much of the row's payload as is shown, if it is a text row. Assumes nothing.
use mathlib.Core.Path.{ap}
use lib.ListN.{length}
use Rattle.booleans.proofs.Handed.{handed}
use Rattle.shown_rules.proofs.Texts.{row_there, no_range, is_shown, no_text}
use Rattle.shown.proofs.text.text_range.Goals as goal

pub returns-in_err-range : goal.returns-in_err-range
returns-in_err-range c = rw (handed _ c.from_residual.ensures.1) (no_range _ _ _ c.payload_range.ensures c.in_err-range.was)

pub row_at-requires : goal.row_at-requires
row_at-requires c = row_there _ _ _ c.payload_range.ensures c.in_ok-range.was

pub returns-then-not-is_text : goal.returns-then-not-is_text
returns-then-not-is_text c =
    rw c.at.ensures (no_text _ _ _ c.payload_range.ensures c.row_at.ensures c.is_text.ensures c.if-not-is_text.true)

pub returns : goal.returns
returns c =
    is_shown _ _ _ c.payload_range.ensures c.row_at.ensures c.is_text.ensures c.in_ok-range.was c.if-not-is_text.false
    c.row_payload.ensures _ (ap length c.shown_part-text.ensures)
