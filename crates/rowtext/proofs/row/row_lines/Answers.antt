-- `row_lines` meets its contract: the rows' lines, one after another. Assumes nothing.
use mathlib.Core.Path.{refl, ◌∙◌}
use Rattle.rowtext.proofs.RowTexts.{listed_starts, listed_goes_on}
use Rattle.rowtext.proofs.row.row_lines.Goals as goal

pub loop-n-init : goal.loop-n-init
loop-n-init c = (listed_starts _ _ _ _, refl)

pub loop-n-preserved : goal.loop-n-preserved
loop-n-preserved c =
    let line = c.row_line.ensures in
    let i = c.loop-n.invariant in (
      listed_goes_on _ _ _ _ _ _ _ _ _ _ c.requires.line_room_in_bounds c.loop-n-test.true c.row_at.ensures i.0
          line.wrote.0 line.upper_bound,
      line.wrote.1 ∙ i.1,
    )
