-- A field: set by the last direct child of its id and kind (document 01, Records).
use Rattle.std.specs.Prelude.{ℕ, List, length}
use Rattle.kinds.specs.declared.kind.Kind.{Kind}
use Rattle.kinds.specs.declared.kind.Kind.TheVariants.{Uint, String, Utf8, Binary}
use Rattle.kinds.specs.declared.kind.Kind.TheVariants.{Float as FloatKind, Date as DateKind}
use Rattle.elements_rules.specs.declared.row.Row.{Row}
use Rattle.fields_rules.specs.Children.{children, last_of}
use Rattle.fields_rules.specs.Values.{FieldValue, count}
use Rattle.fields_rules.specs.Values.{number_in, flag_in, content_in, real_in, date_in, language_in, value_in}
use Rattle.std.specs.Prelude.{Option}

-- Of the master `parent` with the rows below it.
module _ (s : List ℕ) (parent : ℕ) (below : List Row) where
  abbrev pub last_child : ℕ → Kind → Option (ℕ × Row)
  last_child id kind = last_of (children parent id kind below)

  unfoldable pub number_of : ℕ → FieldValue
  number_of id = number_in s (last_child id Uint)

  unfoldable pub flag_of : ℕ → FieldValue
  flag_of id = flag_in s (last_child id Uint)

  unfoldable pub content_of : ℕ → Kind → FieldValue
  content_of id kind = content_in (last_child id kind)

  unfoldable pub real_of : ℕ → FieldValue
  real_of id = real_in s (last_child id FloatKind)

  unfoldable pub date_of : ℕ → FieldValue
  date_of id = date_in s (last_child id DateKind)

  unfoldable pub language_of : (iso ietf : ℕ) → FieldValue
  language_of iso ietf = language_in (last_child ietf String) (last_child iso String)

  unfoldable pub value_of : (text binary : ℕ) → FieldValue
  value_of text binary = value_in (last_child text Utf8) (last_child binary Binary)

  -- How many direct children of this id and kind there are.
  unfoldable pub count_of : ℕ → Kind → FieldValue
  count_of id kind = count (length (children parent id kind below))
