-- `put_row` meets its contract: eight numbers, one after another. Assumes nothing.
use native.Mathlib.Numerals.{towards_suc}
use Rattle.elements_rules.specs.Rows.{flat}
use Rattle.rowstore.proofs.row.put_row.Goals as goal

pub returns : goal.returns
unfolding flat
returns c = simp towards_suc
