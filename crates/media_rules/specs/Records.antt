-- The settings of a track as tables of fields, each with its id (document 01, Records; document 02, C-11; the record
-- types of the crate's lib.rs).
use Rattle.std.specs.Prelude.{ℕ, List, [], ◌∷◌}
use Rattle.elements_rules.specs.declared.row.Row.{Row}
use Rattle.fields_rules.specs.Values.{FieldValue}
use Rattle.fields_rules.specs.Fields.{number_of, real_of}
use Rattle.media_rules.specs.Said.{said_of}
use Rattle.media_rules.specs.Video.{interlaced, stereo}

-- Of a master in a recording, with the rows below it.
module _ (s : List ℕ) (parent : ℕ) (below : List Row) where
  unfoldable pub audio_of : List FieldValue
  audio_of =
      real_of s parent below 0xB5  -- sample rate
      ∷ number_of s parent below 0x9F  -- channels
      ∷ number_of s parent below 0x6264  -- bit depth
      ∷ []

  unfoldable pub video_of : List FieldValue
  video_of =
      number_of s parent below 0xB0  -- pixel width
      ∷ number_of s parent below 0xBA  -- pixel height
      ∷ number_of s parent below 0x54B0  -- display width
      ∷ number_of s parent below 0x54BA  -- display height
      ∷ said_of interlaced s parent below 0x9A  -- interlaced
      ∷ said_of stereo s parent below 0x53B8  -- stereo mode
      ∷ real_of s parent below 0x2FB523  -- gamma
      ∷ []
