-- The values of a track's settings (document 01, Records; document 02, C-11), in document 01's terms.
use Rattle.std.specs.Prelude.{List, [], ◌∷◌}
use Rattle.fields_rules.specs.Values.{FieldValue, unset, number}
use Rattle.fields_rules.specs.Told.{number_told, flag_told, real_told}
use Rattle.locate_rules.specs.Told.{Answer, fields, refusal}
use Rattle.codes.specs.Stereo.{stereo_number}
use Rattle.media_rules.specs.declared.audio.Audio.{Audio}
use Rattle.media_rules.specs.declared.video.Video.{Video}
use Rattle.std.specs.Prelude.{Result, Option, Ok, Err, Some, None}
use Rattle.refusals.specs.declared.refusal.Refusal.{Refusal}
use Rattle.codes.specs.declared.stereo.StereoMode.{StereoMode}
use Rattle.std.specs.Prelude.{ℕ}

-- ---- a stereo mode, by its number

abbrev pub stereo_told : Option StereoMode → FieldValue
stereo_told None = unset
stereo_told (Some mode) = number (stereo_number mode)

-- ---- the fields of a record

abbrev pub audio_values : Audio → List FieldValue
audio_values a = real_told a.sample_rate ∷ number_told a.channels ∷ number_told a.bit_depth ∷ []

abbrev pub video_values : Video → List FieldValue
video_values v =
    number_told v.pixel_width
    ∷ number_told v.pixel_height
    ∷ number_told v.display_width
    ∷ number_told v.display_height
    ∷ flag_told v.interlaced
    ∷ stereo_told v.stereo
    ∷ real_told v.gamma
    ∷ []

-- ---- the replies

abbrev pub audio_told : Result (Audio × ℕ) Refusal → Answer
audio_told (Ok (a, rows)) = fields (audio_values a) rows
audio_told (Err e) = refusal e
