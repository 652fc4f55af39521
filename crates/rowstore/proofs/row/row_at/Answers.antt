-- `row_at` meets its contract: eight numbers, one after another. Assumes nothing.
use Rattle.elements_rules.proofs.Tables.{row_there}
use Rattle.rowstore.proofs.row.row_at.Goals as goal

pub returns : goal.returns
returns c = row_there _ _
