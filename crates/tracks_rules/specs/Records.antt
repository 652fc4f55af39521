-- A track as a table of fields, each with its id (document 02, C-11; Matroska's list of the elements of a TrackEntry;
-- the record type of the crate's lib.rs).
use Rattle.std.specs.Prelude.{ℕ, List, ◌∷◌}
use Rattle.kinds.specs.declared.kind.Kind.TheVariants.{String, Utf8, Binary}
use Rattle.elements_rules.specs.declared.row.Row.{Row}
use Rattle.fields_rules.specs.Children.{subtree}
use Rattle.fields_rules.specs.Values.{FieldValue, unset}
use Rattle.fields_rules.specs.Fields.{number_of, flag_of, content_of, language_of}
use Rattle.media_rules.specs.Said.{said_of}
use Rattle.tracks_rules.specs.Typed.{typed}
use Rattle.tracks_rules.specs.Settings.{settings_of}

-- Of a master in a recording, with the rows below it: its own fields, and then the settings.
module _ (s : List ℕ) (parent : ℕ) (below : List Row) where
  unfoldable pub entry_of : List FieldValue → List FieldValue
  entry_of settings =
      number_of s parent below 0xD7  -- number
      ∷ number_of s parent below 0x73C5  -- uid
      ∷ said_of typed s parent below 0x83  -- type
      ∷ flag_of s parent below 0xB9  -- enabled
      ∷ flag_of s parent below 0x88  -- default
      ∷ flag_of s parent below 0x55AA  -- forced
      -- 55AB to 55AF stay unset, as document 02 orders
      ∷ unset  -- hearing impaired
      ∷ unset  -- visual impaired
      ∷ unset  -- text descriptions
      ∷ unset  -- original
      ∷ unset  -- commentary
      ∷ flag_of s parent below 0x9C  -- lacing
      ∷ number_of s parent below 0x23E383  -- default duration, in nanoseconds
      ∷ content_of s parent below 0x536E Utf8  -- name
      ∷ language_of s parent below 0x22B59C 0x22B59D  -- language: ISO 639, IETF
      ∷ content_of s parent below 0x86 String  -- codec id
      ∷ content_of s parent below 0x63A2 Binary  -- codec private
      ∷ content_of s parent below 0x258688 Utf8  -- codec name
      ∷ settings

-- Of a master among the rows that were read.
unfoldable pub track_of : List ℕ → List Row → ℕ → List FieldValue
track_of s rs parent = entry_of s parent (subtree rs parent) (settings_of s rs parent)
