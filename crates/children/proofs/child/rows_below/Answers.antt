-- `rows_below` meets its contract: the rows that the master jumps over. Assumes nothing.
use Rattle.fields_rules.proofs.Levels.{whole, jumped}
use Rattle.children.proofs.child.rows_below.Goals as goal

pub returns-then-parent-eq0 : goal.returns-then-parent-eq0
returns-then-parent-eq0 c = search whole

pub returns : goal.returns
returns c = search jumped
