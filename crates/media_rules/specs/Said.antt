-- What the number in a field says by a rule, where it is set (document 02, C-11).
use Rattle.std.specs.Prelude.{ℕ, List}
use Rattle.kinds.specs.declared.kind.Kind.TheVariants.{Uint}
use Rattle.elements_rules.specs.declared.row.Row.{Row}
use Rattle.fields_rules.specs.Values.{FieldValue, unset, uint_in}
use Rattle.fields_rules.specs.Fields.{last_child}
use Rattle.std.specs.Prelude.{Option, Some, None}

-- By the child that sets the field.
abbrev pub said_in : (ℕ → FieldValue) → List ℕ → Option (ℕ × Row) → FieldValue
said_in says s None = unset
said_in says s (Some (n, r)) = says (uint_in s r)

-- Of the master `parent` with the rows below it.
unfoldable pub said_of : (ℕ → FieldValue) → List ℕ → ℕ → List Row → ℕ → FieldValue
said_of says s parent below id = said_in says s (last_child s parent below id Uint)

-- By the number itself, once it is read.
abbrev pub said : (ℕ → FieldValue) → Option ℕ → FieldValue
said says None = unset
said says (Some n) = says n
