-- Document 01's value for each case of a field.
use Rattle.std.specs.Prelude.{ℕ, ℤ, Float, Bool, true, false, Option, Some, None}
use Rattle.fields_rules.specs.Values.{FieldValue, unset, number, flag, content, iso, ietf, text, binary, real}
use Rattle.fields_rules.specs.Values.{date}
use Rattle.fields_rules.specs.declared.field.Language.TheVariants.{Iso, Ietf}
use Rattle.fields_rules.specs.declared.field.TagValue.TheVariants.{Text, Binary}
use Rattle.fields_rules.specs.declared.field.Language.{Language}
use Rattle.bodies_rules.specs.declared.body.Range.{Range}
use Rattle.fields_rules.specs.declared.field.TagValue.{TagValue}

abbrev pub number_told : Option ℕ → FieldValue
number_told None = unset
number_told (Some n) = number n

abbrev pub flag_told : Option Bool → FieldValue
flag_told None = unset
flag_told (Some false) = flag false
flag_told (Some true) = flag true

abbrev pub content_told : Option Range → FieldValue
content_told None = unset
content_told (Some r) = content r.at r.length

abbrev pub language_told : Option Language → FieldValue
language_told None = unset
language_told (Some (Iso r)) = iso r.at r.length
language_told (Some (Ietf r)) = ietf r.at r.length

abbrev pub value_told : Option TagValue → FieldValue
value_told None = unset
value_told (Some (Text r)) = text r.at r.length
value_told (Some (Binary r)) = binary r.at r.length

abbrev pub real_told : Option Float → FieldValue
real_told None = unset
real_told (Some x) = real x

abbrev pub date_told : Option ℤ → FieldValue
date_told None = unset
date_told (Some z) = date z
