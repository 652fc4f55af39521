-- What is proved of the definitions beside the contracts: the statements of the theorems.
use Rattle.std.specs.Prelude.{ℕ, ◌+◌, ◌<◌, ◌≡◌, List, Bool, true, false, length}
use Rattle.kinds.specs.declared.kind.Kind.TheVariants.{Master}
use Rattle.elements_rules.specs.Rows.{nth}
use Rattle.elements_rules.specs.declared.row.Row.{Row}
use Rattle.fields_rules.specs.Children.{fits, children, last_of}
use Rattle.locate_rules.specs.Theorems.{OneReply, OnlyListed, OnlyHonest, Addressed}
use Rattle.locate_rules.specs.Live.{BothModes}
use Rattle.tracks_rules.specs.Settings.{decided}
use Rattle.tracks_rules.specs.Records.{track_of}
use Rattle.tracks_rules.specs.Promise.{track_asked, TrackPromise}
use Rattle.tracks_rules.specs.declared.settings.Deciding.TheVariants.{Video, Audio}
use Rattle.std.specs.Prelude.{Option, Err, Some, None}
use Rattle.tracks_rules.specs.declared.settings.Deciding.{Deciding}

-- Any two replies and tables that the promise permits to one question are equal (document 01, Strength of the
-- promises). The numbers that stood in the lent table do not matter, only how many there are.
abbrev pub OneTrack : Type 0
OneTrack = (live : Bool) (s : List ℕ) (start size k : ℕ) → OneReply (TrackPromise live s start size k)

-- A refusal among the replies that the promise permits is one of the list (`Listed`).
pub record TracksRefuseListed : Type 0 where
  pub track : (live : Bool) (s : List ℕ) (start size k : ℕ) → OnlyListed Err (TrackPromise live s start size k)

-- Where it broke: the payload's refusals are honest, and 14 and 15 have address 0.
pub record TracksHonest : Type 0 where
  pub track :
      (live : Bool) (s : List ℕ) (start size k : ℕ)
      → OnlyHonest live s start size 0xAE Err (TrackPromise live s start size k)

-- Every address in a record that is told is the payload's place of one of the rows that the table holds at exit.
abbrev pub TrackAddressed : Type 0
TrackAddressed = (live : Bool) (s : List ℕ) (start size k : ℕ) → Addressed (track_of s) (track_asked live s start size k)

-- Live mode beside old mode (document 02, C-18): 17, or the equal reply and table; and these where all sizes that are
-- read are known. It shuts out a live mode that takes the settings of an E0 of unknown size for unset.
pub record TracksLive : Type 0 where
  pub track :
      (s : List ℕ) (start size k : ℕ)
      → BothModes s start size 0xAE Err (λ (live : Bool). TrackPromise live s start size k)

-- ---- the last Video or Audio decides

-- Whether row m below a master is a direct child that holds settings.
abbrev pub IsVideo : ℕ → List Row → ℕ → Type 0
IsVideo parent below m = fits parent 0xE0 Master (nth below m) ≡ true

abbrev pub IsAudio : ℕ → List Row → ℕ → Type 0
IsAudio parent below m = fits parent 0xE1 Master (nth below m) ≡ true

-- No row from k on is one.
abbrev pub NoneFrom : ℕ → List Row → ℕ → Type 0
NoneFrom parent below k =
    (m : ℕ) → k < m + 1 → m < length below
    → (fits parent 0xE0 Master (nth below m) ≡ false) × (fits parent 0xE1 Master (nth below m) ≡ false)

pub data Decides (parent : ℕ) (below : List Row) (d : Option Deciding) : Type 0 where
  none : d ≡ None → NoneFrom parent below 0 → Decides parent below d
  video :
      (k : ℕ) → k < length below → IsVideo parent below k → d ≡ Some (Video (parent + k))
      → NoneFrom parent below (k + 1) → Decides parent below d
  audio :
      (k : ℕ) → k < length below → IsAudio parent below k → d ≡ Some (Audio (parent + k))
      → NoneFrom parent below (k + 1) → Decides parent below d

abbrev pub LastDecides : Type 0
LastDecides =
    (parent : ℕ) (below : List Row)
    → Decides parent below
    (decided (last_of (children parent 0xE0 Master below)) (last_of (children parent 0xE1 Master below)))
