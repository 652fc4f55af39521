-- The settings of a track: the last Video (E0) or Audio (E1) below its entry decides (document 02, C-11; the crate's
-- `Track::build_entry`).
use Rattle.std.specs.Prelude.{ℕ, suc, List, [], ◌∷◌, cond, ltb}
use Rattle.kinds.specs.declared.kind.Kind.TheVariants.{Master}
use Rattle.elements_rules.specs.declared.row.Row.{Row}
use Rattle.fields_rules.specs.Children.{subtree}
use Rattle.fields_rules.specs.Values.{FieldValue, unset, number}
use Rattle.fields_rules.specs.Fields.{last_child}
use Rattle.media_rules.specs.Records.{audio_of, video_of}
use Rattle.tracks_rules.specs.declared.settings.Deciding.TheVariants.{Video, Audio}
use Rattle.std.specs.Prelude.{Option, Some, None}
use Rattle.tracks_rules.specs.declared.settings.Deciding.{Deciding}

-- The later of the last Video and the last Audio, by its row's number.
abbrev pub decided : (video audio : Option (ℕ × Row)) → Option Deciding
decided None None = None
decided (Some (n, r)) None = Some (Video n)
decided None (Some (m, q)) = Some (Audio m)
decided (Some (n, r)) (Some (m, q)) = cond (ltb n m) (Some (Audio m)) (Some (Video n))

-- Of a master among the rows that were read. Which settings they are is told by the number of the track type, 1 for
-- video and 2 for audio, and none by unset.
module _ (s : List ℕ) (rs : List Row) (parent : ℕ) where
  abbrev pub settings_in : Option Deciding → List FieldValue
  settings_in None = unset ∷ []
  settings_in (Some (Video n)) = number 1 ∷ video_of s (suc n) (subtree rs (suc n))
  settings_in (Some (Audio n)) = number 2 ∷ audio_of s (suc n) (subtree rs (suc n))

  abbrev pub last_master : ℕ → Option (ℕ × Row)
  last_master id = last_child s parent (subtree rs parent) id Master

  unfoldable pub settings_of : List FieldValue
  settings_of = settings_in (decided (last_master 0xE0) (last_master 0xE1))
