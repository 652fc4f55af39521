-- The children that an iterator over them has still to give: those from the row that it looks at next on.
use Rattle.std.specs.Prelude.{ℕ, ◌*◌, ◌-◌, List, drop, Option}
use Rattle.elements_rules.specs.Rows.{width, rows_of}
use Rattle.elements_rules.specs.declared.row.Row.{Row}
use Rattle.fields_rules.specs.Children.{children_from}
use Rattle.children.specs.declared.child.Children.{Children}

abbrev pub left : Children → List (Option (ℕ × Row))
left c =
    children_from c.next c.master.parent c.id c.kind
    (rows_of (drop (c.next * width) c.table.now) (c.master.end - c.next))
