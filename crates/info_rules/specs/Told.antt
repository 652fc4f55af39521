-- The values of Info's fields (document 02, C-14), in document 01's terms.
use Rattle.std.specs.Prelude.{List, [], ◌∷◌}
use Rattle.fields_rules.specs.Values.{FieldValue, content, count}
use Rattle.fields_rules.specs.Told.{number_told, content_told, real_told, date_told}
use Rattle.locate_rules.specs.Told.{Answer, fields, refusal}
use Rattle.info_rules.specs.declared.info.Info.{Info}
use Rattle.std.specs.Prelude.{Result, Ok, Err}
use Rattle.bodies_rules.specs.declared.body.Range.{Range}
use Rattle.refusals.specs.declared.refusal.Refusal.{Refusal}
use Rattle.std.specs.Prelude.{ℕ}

-- ---- the fields of the record

abbrev pub info_values : Info → List FieldValue
info_values a =
    content_told a.uid
    ∷ content_told a.prev_uid
    ∷ content_told a.next_uid
    ∷ count a.families
    ∷ content_told a.title
    ∷ real_told a.duration
    ∷ number_told a.timestamp_scale
    ∷ date_told a.date_utc
    ∷ content_told a.muxing_app
    ∷ content_told a.writing_app
    ∷ []

-- ---- the replies

abbrev pub info_told : Result (Info × ℕ) Refusal → Answer
info_told (Ok (a, rows)) = fields (info_values a) rows
info_told (Err e) = refusal e

abbrev pub family_told : Result (Range × ℕ) Refusal → Answer
family_told (Ok (uid, rows)) = fields (content uid.at uid.length ∷ []) rows
family_told (Err e) = refusal e
