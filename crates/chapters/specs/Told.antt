-- Document 01's values for the fields of each record of Chapters.
use Rattle.std.specs.Prelude.{List, [], ◌∷◌}
use Rattle.fields_rules.specs.Values.{FieldValue, count}
use Rattle.fields_rules.specs.Told.{number_told, flag_told, content_told, language_told}
use Rattle.locate_rules.specs.Told.{Answer, fields, refusal}
use Rattle.chapters.specs.declared.edition.ChapterEdition.{ChapterEdition}
use Rattle.chapters.specs.declared.chapter.Chapter.{Chapter}
use Rattle.chapters.specs.declared.display.ChapterDisplay.{ChapterDisplay}
use Rattle.std.specs.Prelude.{Result, Ok, Err}
use Rattle.refusals.specs.declared.refusal.Refusal.{Refusal}
use Rattle.std.specs.Prelude.{ℕ}

-- ---- the fields of a record

abbrev pub edition_values : ChapterEdition → List FieldValue
edition_values e =
    number_told e.uid
    ∷ flag_told e.hidden
    ∷ flag_told e.default
    ∷ flag_told e.ordered
    ∷ count e.chapters
    ∷ []

abbrev pub chapter_values : Chapter → List FieldValue
chapter_values c =
    number_told c.uid
    ∷ number_told c.time_start
    ∷ number_told c.time_end
    ∷ flag_told c.hidden
    ∷ flag_told c.enabled
    ∷ content_told c.segment_uid
    ∷ number_told c.segment_edition_uid
    ∷ count c.displays
    ∷ []

abbrev pub display_values : ChapterDisplay → List FieldValue
display_values d = content_told d.string ∷ language_told d.language ∷ []

-- ---- the replies

abbrev pub edition_told : Result (ChapterEdition × ℕ) Refusal → Answer
edition_told (Ok (a, rows)) = fields (edition_values a) rows
edition_told (Err e) = refusal e

abbrev pub chapter_told : Result (Chapter × ℕ) Refusal → Answer
chapter_told (Ok (a, rows)) = fields (chapter_values a) rows
chapter_told (Err e) = refusal e

abbrev pub display_told : Result (ChapterDisplay × ℕ) Refusal → Answer
display_told (Ok (a, rows)) = fields (display_values a) rows
display_told (Err e) = refusal e
