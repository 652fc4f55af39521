-- The values of a track's fields (document 02, C-11), in document 01's terms.
use Rattle.std.specs.Prelude.{List, [], ◌∷◌}
use Rattle.fields_rules.specs.Values.{FieldValue, unset, number}
use Rattle.fields_rules.specs.Told.{number_told, flag_told, content_told, language_told}
use Rattle.locate_rules.specs.Told.{Answer, fields, refusal}
use Rattle.codes.specs.Tracktypes.{type_number}
use Rattle.media_rules.specs.Told.{audio_values, video_values}
use Rattle.tracks_rules.specs.declared.settings.Settings.TheVariants.{Video, Audio}
use Rattle.tracks_rules.specs.declared.track.Track.{Track}
use Rattle.std.specs.Prelude.{Result, Option, Ok, Err, Some, None}
use Rattle.refusals.specs.declared.refusal.Refusal.{Refusal}
use Rattle.tracks_rules.specs.declared.settings.Settings.{Settings}
use Rattle.codes.specs.declared.tracktype.Tracktype.{Tracktype}
use Rattle.std.specs.Prelude.{ℕ}

-- ---- the fields of a record

abbrev pub typed_told : Option Tracktype → FieldValue
typed_told None = unset
typed_told (Some type) = number (type_number type)

abbrev pub settings_values : Option Settings → List FieldValue
settings_values None = unset ∷ []
settings_values (Some (Video v)) = number 1 ∷ video_values v
settings_values (Some (Audio a)) = number 2 ∷ audio_values a

abbrev pub track_values : Track → List FieldValue
track_values t =
    number_told t.number
    ∷ number_told t.uid
    ∷ typed_told t.tracktype
    ∷ flag_told t.enabled
    ∷ flag_told t.default
    ∷ flag_told t.forced
    ∷ flag_told t.hearing_impaired
    ∷ flag_told t.visual_impaired
    ∷ flag_told t.text_descriptions
    ∷ flag_told t.original
    ∷ flag_told t.commentary
    ∷ flag_told t.lacing
    ∷ number_told t.default_duration
    ∷ content_told t.name
    ∷ language_told t.language
    ∷ content_told t.codec_id
    ∷ content_told t.codec_private
    ∷ content_told t.codec_name
    ∷ settings_values t.settings

-- ---- the reply

abbrev pub track_told : Result (Track × ℕ) Refusal → Answer
track_told (Ok (a, rows)) = fields (track_values a) rows
track_told (Err e) = refusal e
