-- `is_table` meets its contract. Assumes nothing.
use lib.ListN.{length}
use Prim.Native.Nat.{◌%◌}
use borrow.Author.Tests.{eq-eqb, ne_eqb}
use Rattle.elements_rules.specs.Promise.{is_table}
use Rattle.rowstore.proofs.table.is_table.Goals as goal

pub returns-then-table-eq0 : goal.returns-then-table-eq0
unfolding is_table
returns-then-table-eq0 c = rw (eq-eqb (length c.args.table.now % 8) 0 c.if-table-eq0.true)

pub returns-else-table-eq0 : goal.returns-else-table-eq0
unfolding is_table
returns-else-table-eq0 c = rw (ne_eqb (length c.args.table.now % 8) 0 c.if-table-eq0.false)
