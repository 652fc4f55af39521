-- What is read from the rows below a master: the values of a record, or of a field of it.
use Rattle.std.specs.Prelude.{ℕ, List}
use Rattle.elements_rules.specs.declared.row.Row.{Row}
use Rattle.fields_rules.specs.Children.{rows_in}
use Rattle.fields.specs.declared.field.Fields.{Fields}

abbrev pub read : {A : Type 0} → (List ℕ → ℕ → List Row → A) → Fields → A
read values f = values f.recording.now f.master.parent (rows_in f.table.now f.master)
