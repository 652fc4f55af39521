-- Every address in a track is the payload's place of a row of the table (`TrackAddressed`). Assumes nothing.
use Prim.Native.Nat.{ℕ, suc, ◌≤◌}
use mathlib.Core.Path.{◌≡◌, refl, sym}
use mathlib.Core.List.{List, ◌∷◌}
use lib.ListN.{length}
use Rattle.kinds.specs.declared.kind.Kind.TheVariants.{Master}
use Rattle.elements_rules.specs.declared.row.Row.{Row}
use Rattle.fields_rules.specs.Children.{subtree}
use Rattle.fields_rules.specs.Values.{FieldValue}
use Rattle.locate_rules.specs.Theorems.{Placed, AllPlaced}
use Rattle.locate_rules.proofs.Ways.{last_known}
use Rattle.locate_rules.proofs.Addressed.{numbers, flags, parts, languages, asked_addressed}
use Rattle.media_rules.proofs.Addressed.{said_placed, audio_placed, video_placed}
use Rattle.tracks_rules.specs.Typed.{typed}
use Rattle.tracks_rules.specs.Settings.{last_master, decided, settings_in, settings_of}
use Rattle.tracks_rules.specs.Records.{entry_of, track_of}
use Rattle.tracks_rules.specs.Theorems.{TrackAddressed}
use Rattle.tracks_rules.specs.declared.settings.Deciding.TheVariants.{Video, Audio}
use Rattle.tracks_rules.proofs.Decided.{video_is, audio_is}
use Rattle.std.proofs.Common.{Option, Some, None}
use Rattle.tracks_rules.specs.declared.settings.Deciding.{Deciding}

typed_placed : (rs : List Row) (n : ℕ) → Placed rs (typed n)
unfolding typed
typed_placed rs n = tt

module _ (s : List ℕ) (rs : List Row) (parent : ℕ) (l : parent ≤ length rs) where
  settings_placed : AllPlaced rs (settings_of s rs parent)
  unfolding settings_of AllPlaced
  settings_placed = go (decided (last_master s rs parent 0xE0) (last_master s rs parent 0xE1)) refl
    where
      go : (d : Option Deciding) → decided (last_master s rs parent 0xE0) (last_master s rs parent 0xE1) ≡ d
          → AllPlaced rs (settings_in s rs parent d)
      go None e = (tt, tt)
      go (Some (Video n)) e = (
        tt,
        video_placed s rs (suc n)
            (video_is (λ m. suc m ≤ length rs) (last_master s rs parent 0xE0) (last_master s rs parent 0xE1) n
            (λ m r q. last_known rs parent 0xE0 Master l m r q) (sym e)),
      )
      go (Some (Audio n)) e = (
        tt,
        audio_placed s rs (suc n)
            (audio_is (λ m. suc m ≤ length rs) (last_master s rs parent 0xE0) (last_master s rs parent 0xE1) n
            (λ m r q. last_known rs parent 0xE1 Master l m r q) (sym e)),
      )

  more : (v : FieldValue) (vs : List FieldValue) → Placed rs v → AllPlaced rs vs → AllPlaced rs (v ∷ vs)
  unfolding AllPlaced
  more v vs p q = (p, q)

  entry_placed : (vs : List FieldValue) → AllPlaced rs vs → AllPlaced rs (entry_of s parent (subtree rs parent) vs)
  unfolding entry_of
  entry_placed vs p =
      let number = numbers s rs parent l in
      let flag = flags s rs parent l in
      let part = parts s rs parent l in
      let type = said_placed rs typed (typed_placed rs) s parent (subtree rs parent) _ in
      more _ _ (number _) (more _ _ (number _) (more _ _ type
      (more _ _ (flag _) (more _ _ (flag _) (more _ _ (flag _)
      (more _ _ tt (more _ _ tt (more _ _ tt (more _ _ tt (more _ _ tt
      (more _ _ (flag _) (more _ _ (number _)
      (more _ _ (part _ _) (more _ _ (languages s rs parent l _ _)
      (more _ _ (part _ _) (more _ _ (part _ _) (more _ _ (part _ _) p)))))))))))))))))

  track_placed : AllPlaced rs (track_of s rs parent)
  unfolding track_of
  track_placed = entry_placed (settings_of s rs parent) settings_placed

pub track_addressed : TrackAddressed
track_addressed live s start size k = asked_addressed live _ (track_placed s) s start size _ _
