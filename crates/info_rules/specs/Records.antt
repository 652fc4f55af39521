-- Info as a table of fields, each with its id (document 02, C-14; Matroska's list of the elements of an Info; the
-- record type of the crate's lib.rs).
use Rattle.std.specs.Prelude.{ℕ, List, [], ◌∷◌}
use Rattle.kinds.specs.declared.kind.Kind.TheVariants.{Utf8, Binary}
use Rattle.elements_rules.specs.declared.row.Row.{Row}
use Rattle.fields_rules.specs.Children.{subtree, children, nth_of, rows_in}
use Rattle.fields_rules.specs.Values.{FieldValue, content_in}
use Rattle.fields_rules.specs.Fields.{number_of, content_of, real_of, date_of, count_of}
use Rattle.fields_rules.specs.declared.child.Below.{Below}
use Rattle.std.specs.Prelude.{Option}

-- Of a master in a recording, with the rows below it. The duration stays as it is, with the scale beside it.
module _ (s : List ℕ) (parent : ℕ) (below : List Row) where
  unfoldable pub info_of : List FieldValue
  info_of =
      content_of s parent below 0x73A4 Binary  -- uid
      ∷ content_of s parent below 0x3CB923 Binary  -- previous uid
      ∷ content_of s parent below 0x3EB923 Binary  -- next uid
      ∷ count_of s parent below 0x4444 Binary  -- families
      ∷ content_of s parent below 0x7BA9 Utf8  -- title
      ∷ real_of s parent below 0x4489  -- duration, in units of the scale
      ∷ number_of s parent below 0x2AD7B1  -- timestamp scale, in nanoseconds
      ∷ date_of s parent below 0x4461  -- date
      ∷ content_of s parent below 0x4D80 Utf8  -- muxing app
      ∷ content_of s parent below 0x5741 Utf8  -- writing app
      ∷ []

-- The i-th family below the master; and of a master's rows in a table.
abbrev pub family_of : ℕ → List Row → ℕ → Option (ℕ × Row)
family_of i rs parent = nth_of i (children parent 0x4444 Binary (subtree rs parent))

abbrev pub family_in : List ℕ → Below → ℕ → Option (ℕ × Row)
family_in t b i = nth_of i (children b.parent 0x4444 Binary (rows_in t b))

-- What is told of it.
unfoldable pub family_fields : ℕ → List Row → ℕ → List FieldValue
family_fields i rs parent = content_in (family_of i rs parent) ∷ []
