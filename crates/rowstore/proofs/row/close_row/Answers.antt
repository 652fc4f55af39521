-- `close_row` meets its contract. Assumes nothing.
use native.Mathlib.Omega.{arith}
use Rattle.elements_rules.specs.Contract.{closed}
use borrow.Author.Rules.{rules}
use Rattle.rowstore.proofs.row.close_row.Goals as goal

pub returns-then-mode : goal.returns-then-mode
unfolding closed
returns-then-mode c = rw c.if-mode.true

pub returns-else-mode : goal.returns-else-mode
unfolding closed
returns-else-mode c = rw c.if-mode.false

pub overflow_mul-last : goal.overflow_mul-last
overflow_mul-last c = let h = c.requires c.if-mode.true in search (rules, h)

pub overflow_add-last : goal.overflow_add-last
overflow_add-last c = let h = c.requires c.if-mode.true in search (rules, h)

pub offset_bounds-table-last : goal.offset_bounds-table-last
offset_bounds-table-last c = let h = c.requires c.if-mode.true in search (rules, h)

pub bounds-table-last : goal.bounds-table-last
bounds-table-last c = let h = c.requires c.if-mode.true in omega (arith, h)
