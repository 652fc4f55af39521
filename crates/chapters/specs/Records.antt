-- The records of Chapters as tables of fields, each with its id (document 01, Records; the record types of the crate's
-- lib.rs).
use Rattle.std.specs.Prelude.{ℕ, List, [], ◌∷◌}
use Rattle.kinds.specs.declared.kind.Kind.TheVariants.{Master, Utf8, Binary}
use Rattle.elements_rules.specs.declared.row.Row.{Row}
use Rattle.fields_rules.specs.Values.{FieldValue}
use Rattle.fields_rules.specs.Fields.{number_of, flag_of, content_of, language_of, count_of}

-- Of a master in a recording, with the rows below it.
module _ (s : List ℕ) (parent : ℕ) (below : List Row) where
  unfoldable pub edition_of : List FieldValue
  edition_of =
      number_of s parent below 0x45BC  -- uid
      ∷ flag_of s parent below 0x45BD  -- hidden
      ∷ flag_of s parent below 0x45DB  -- default
      ∷ flag_of s parent below 0x45DD  -- ordered
      ∷ count_of s parent below 0xB6 Master  -- chapters
      ∷ []

  -- Times are in nanoseconds.
  unfoldable pub chapter_of : List FieldValue
  chapter_of =
      number_of s parent below 0x73C4  -- uid
      ∷ number_of s parent below 0x91  -- start
      ∷ number_of s parent below 0x92  -- end
      ∷ flag_of s parent below 0x98  -- hidden
      ∷ flag_of s parent below 0x4598  -- enabled
      ∷ content_of s parent below 0x6E67 Binary  -- segment uid
      ∷ number_of s parent below 0x6EBC  -- segment edition uid
      ∷ count_of s parent below 0x80 Master  -- displays
      ∷ []

  unfoldable pub display_of : List FieldValue
  display_of =
      content_of s parent below 0x85 Utf8  -- string
      ∷ language_of s parent below 0x437C 0x437D  -- language: ISO 639, IETF
      ∷ []
