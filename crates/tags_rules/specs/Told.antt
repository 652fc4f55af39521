-- Document 01's values for the fields of each record of Tags.
use Rattle.std.specs.Prelude.{List, [], ◌∷◌, ◌++◌, true, false}
use Rattle.fields_rules.specs.Values.{FieldValue, number, flag, count}
use Rattle.fields_rules.specs.Told.{number_told, flag_told, content_told, language_told, value_told}
use Rattle.locate_rules.specs.Told.{Answer, fields, refusal}
use Rattle.tags_rules.specs.declared.tag.Target.{Target}
use Rattle.tags_rules.specs.declared.tag.Tag.{Tag}
use Rattle.tags_rules.specs.declared.simple.SimpleTag.{SimpleTag}
use Rattle.std.specs.Prelude.{Result, Option, Ok, Err, Some, None}
use Rattle.refusals.specs.declared.refusal.Refusal.{Refusal}
use Rattle.std.specs.Prelude.{ℕ}

-- ---- the fields of a record

abbrev pub simple_values : SimpleTag → List FieldValue
simple_values t =
    content_told t.name ∷ language_told t.language ∷ flag_told t.default ∷ value_told t.value ∷ []

abbrev pub target_values : Target → List FieldValue
target_values t =
    number_told t.target_type_value
    ∷ content_told t.target_type
    ∷ count t.tracks
    ∷ count t.editions
    ∷ count t.chapters
    ∷ count t.attachments
    ∷ []

abbrev pub targets_values : Option Target → List FieldValue
targets_values None = flag false ∷ []
targets_values (Some t) = flag true ∷ target_values t

abbrev pub tag_values : Tag → List FieldValue
tag_values t = targets_values t.targets ++ (count t.simple ∷ [])

-- ---- the replies

abbrev pub tag_told : Result (Tag × ℕ) Refusal → Answer
tag_told (Ok (a, rows)) = fields (tag_values a) rows
tag_told (Err e) = refusal e

abbrev pub uid_told : Result (ℕ × ℕ) Refusal → Answer
uid_told (Ok (uid, rows)) = fields (number uid ∷ []) rows
uid_told (Err e) = refusal e

abbrev pub simple_told : Result (SimpleTag × ℕ) Refusal → Answer
simple_told (Ok (a, rows)) = fields (simple_values a) rows
simple_told (Err e) = refusal e
