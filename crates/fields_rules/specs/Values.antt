-- What a field holds in document 01's own terms, and what a child gives it (document 01, Records).
use Rattle.std.specs.Prelude.{ℕ, ◌+◌, List, Bool, cond, not, ltb, eqb, ℤ, Float}
use Rattle.header.specs.Vint.{big_endian}
use Rattle.bodies_rules.specs.Numbers.{signed_of, float_of}
use Rattle.bodies_rules.specs.declared.body.Range.{Range}
use Rattle.elements_rules.specs.Rows.{payload_of}
use Rattle.elements_rules.specs.declared.row.Row.{Row}
use Rattle.std.specs.Prelude.{Option, Some, None}

-- The value of a field, or that it is unset: a mark of its own. A text or bytes is an address and a length.
pub data FieldValue : Type 0 where
  unset : FieldValue
  number : ℕ → FieldValue
  flag : Bool → FieldValue
  content : ℕ → ℕ → FieldValue
  -- a language, of ISO 639 or of the IETF
  iso : ℕ → ℕ → FieldValue
  ietf : ℕ → ℕ → FieldValue
  -- a tag's value by its case
  text : ℕ → ℕ → FieldValue
  binary : ℕ → ℕ → FieldValue
  real : Float → FieldValue
  -- nanoseconds from 2001-01-01
  date : ℤ → FieldValue
  -- how many there are of a repeated part
  count : ℕ → FieldValue

-- The place of a row's payload: its address and length.
abbrev pub range_in : Row → Range
range_in r = record { at = r.address + r.header; length = r.payload }

-- A value that names that place.
abbrev pub placed : (ℕ → ℕ → FieldValue) → Row → FieldValue
placed names r = names (range_in r).at (range_in r).length

-- A row's payload as one big-endian number, and as a float or a signed number of its size.
abbrev pub uint_in : List ℕ → Row → ℕ
uint_in s r = big_endian (payload_of s r)

abbrev pub float_in : List ℕ → Row → Float
float_in s r = float_of r.payload (uint_in s r)

abbrev pub signed_in : List ℕ → Row → ℤ
signed_in s r = signed_of r.payload (uint_in s r)

-- ---- what a field holds, by the child that sets it

abbrev pub number_in : List ℕ → Option (ℕ × Row) → FieldValue
number_in s None = unset
number_in s (Some (n, r)) = number (uint_in s r)

-- A flag is a truth value: any number but 0 is yes.
abbrev pub flag_in : List ℕ → Option (ℕ × Row) → FieldValue
flag_in s None = unset
flag_in s (Some (n, r)) = flag (not (eqb (uint_in s r) 0))

abbrev pub content_in : Option (ℕ × Row) → FieldValue
content_in None = unset
content_in (Some (n, r)) = placed content r

abbrev pub real_in : List ℕ → Option (ℕ × Row) → FieldValue
real_in s None = unset
real_in s (Some (n, r)) = real (float_in s r)

abbrev pub date_in : List ℕ → Option (ℕ × Row) → FieldValue
date_in s None = unset
date_in s (Some (n, r)) = date (signed_in s r)

-- An ISO 639 language never replaces an IETF one.
abbrev pub language_in : (ietfs isos : Option (ℕ × Row)) → FieldValue
language_in (Some (n, r)) isos = placed ietf r
language_in None (Some (n, r)) = placed iso r
language_in None None = unset

-- A tag's value: the later of its text and its bytes.
abbrev pub value_in : (texts binaries : Option (ℕ × Row)) → FieldValue
value_in None None = unset
value_in (Some (n, r)) None = placed text r
value_in None (Some (m, q)) = placed binary q
value_in (Some (n, r)) (Some (m, q)) = cond (ltb n m) (placed binary q) (placed text r)
