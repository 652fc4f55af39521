-- Document 01's values for the fields of an attached file.
use Rattle.std.specs.Prelude.{List, [], ◌∷◌}
use Rattle.fields_rules.specs.Values.{FieldValue}
use Rattle.fields_rules.specs.Told.{content_told}
use Rattle.locate_rules.specs.Told.{Answer, fields, refusal}
use Rattle.attachments.specs.declared.attachment.Attachment.{Attachment}
use Rattle.std.specs.Prelude.{Result, Ok, Err}
use Rattle.refusals.specs.declared.refusal.Refusal.{Refusal}
use Rattle.std.specs.Prelude.{ℕ}

-- ---- the fields of a record

abbrev pub attachment_values : Attachment → List FieldValue
attachment_values a =
    content_told a.description ∷ content_told a.name ∷ content_told a.mime_type ∷ content_told a.data ∷ []

-- ---- the replies

abbrev pub attachment_told : Result (Attachment × ℕ) Refusal → Answer
attachment_told (Ok (a, rows)) = fields (attachment_values a) rows
attachment_told (Err e) = refusal e
