-- An attached file as a table of fields, each with its id (document 01, Records; the record types of the crate's
-- lib.rs).
use Rattle.std.specs.Prelude.{ℕ, List, [], ◌∷◌}
use Rattle.kinds.specs.declared.kind.Kind.TheVariants.{String, Utf8, Binary}
use Rattle.elements_rules.specs.declared.row.Row.{Row}
use Rattle.fields_rules.specs.Values.{FieldValue}
use Rattle.fields_rules.specs.Fields.{content_of}

-- Of a master in a recording, with the rows below it.
module _ (s : List ℕ) (parent : ℕ) (below : List Row) where
  unfoldable pub attachment_of : List FieldValue
  attachment_of =
      content_of s parent below 0x467E Utf8  -- description
      ∷ content_of s parent below 0x466E Utf8  -- name
      ∷ content_of s parent below 0x4660 String  -- mime type
      ∷ content_of s parent below 0x465C Binary  -- data
      ∷ []
