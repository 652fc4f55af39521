-- A chapter's first display with a set string (document 01, Records: 'the stage label').
use Rattle.std.specs.Prelude.{ℕ, suc, ◌+◌, List, [], ◌∷◌}
use Rattle.kinds.specs.declared.kind.Kind.TheVariants.{Master, Utf8}
use Rattle.elements_rules.specs.declared.row.Row.{Row}
use Rattle.fields_rules.specs.Children.{subtree, children}
use Rattle.fields_rules.specs.Values.{FieldValue, range_in}
use Rattle.fields_rules.specs.Fields.{last_child, content_of}
use Rattle.std.specs.Prelude.{Option, Some, None}
use Rattle.bodies_rules.specs.declared.body.Range.{Range}

-- Of displays among the rows that were read.
module _ (s : List ℕ) (rs : List Row) where
  -- The string of the display in row n, and the row that sets it.
  abbrev pub string_of : ℕ → FieldValue
  string_of n = content_of s (suc n) (subtree rs (suc n)) 0x85 Utf8

  abbrev pub string_row : Option (ℕ × Row) → Option (ℕ × Row)
  string_row None = None
  string_row (Some (n, r)) = last_child s (suc n) (subtree rs (suc n)) 0x85 Utf8

  -- A display whose string is set, or else the first behind it.
  abbrev pub or_later : ℕ → Option (ℕ × Row) → Option (ℕ × Range) → Option (ℕ × Range)
  or_later j None later = later
  or_later j (Some (m, r)) later = Some (j, range_in r)

  -- Of the displays from number j on.
  unfoldable pub first_from : ℕ → List (Option (ℕ × Row)) → Option (ℕ × Range)
  first_from j [] = None
  first_from j (d ∷ ds) = or_later j (string_row d) (first_from (j + 1) ds)

  -- Of the chapter `parent`.
  unfoldable pub first_string : ℕ → Option (ℕ × Range)
  first_string parent = first_from 0 (children parent 0x80 Master (subtree rs parent))
