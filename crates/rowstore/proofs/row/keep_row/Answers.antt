-- `keep_row` meets its contract. Assumes nothing.
use mathlib.Core.Path.{refl}
use Rattle.elements_rules.proofs.Tables.{kept_full, kept_row, kept_none}
use Rattle.rowstore.proofs.row.keep_row.Goals as goal

pub returns-else-n-table : goal.returns-else-n-table
returns-else-n-table c =
    let kept =
    kept_row c.args.mode c.args.table.now _ _ c.args.row c.if-mode.true c.if-n-table.false c.put_row.ensures in
    record { value = kept.0; table_after = kept.1 }

pub returns-then-n-table : goal.returns-then-n-table
returns-then-n-table c =
    let kept = kept_full c.args.mode c.args.table.now _ _ c.args.row c.if-mode.true c.if-n-table.true in
    record { value = kept.0; table_after = kept.1 }

pub returns-else-mode : goal.returns-else-mode
returns-else-mode c =
    let kept = kept_none c.args.mode c.args.table.now _ _ c.args.row c.if-mode.false refl in
    record { value = kept.0; table_after = kept.1 }
