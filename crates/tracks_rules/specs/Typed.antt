-- A track's type among the values of a record: by its number.
use Rattle.std.specs.Prelude.{ℕ}
use Rattle.codes.specs.Tracktypes.{type_number, tracktype_of}
use Rattle.fields_rules.specs.Values.{FieldValue, number}

-- What a number says of the type (document 01, Records: any other number is Unknown).
unfoldable pub typed : ℕ → FieldValue
typed n = number (type_number (tracktype_of n))
