-- `row_lines` meets its contract: the rows' lines, one after another. Assumes nothing.
use Rattle.std.proofs.Common.{◌≡◌}
use Rattle.rowtext.proofs.RowTexts.{Listed}
use Rattle.rowtext.proofs.row.row_lines.Given as goal

abbrev pub invariant-loop-n : goal.invariant-loop-n
invariant-loop-n l =
    Listed l.initial.page.bytes.now l.initial.page.held l.table l.rows l.page.bytes.now l.page.held l.n
    × (l.page.bytes.ghost_name ≡ l.initial.page.bytes.ghost_name)
