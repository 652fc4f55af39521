-- What the question for a track promises of its reply and of the table.
use Rattle.std.specs.Prelude.{ℕ, List, Bool, length}
use Rattle.locate_rules.specs.Steps.{way}
use Rattle.locate_rules.specs.Asked.{Asked, asked}
use Rattle.locate_rules.specs.Promise.{RecordPromise}
use Rattle.locate_rules.specs.declared.steps.Step.TheVariants.{Here, Nth}
use Rattle.tracks_rules.specs.Records.{track_of}
use Rattle.tracks_rules.specs.Told.{track_told}
use Rattle.std.specs.Prelude.{Result}
use Rattle.refusals.specs.declared.refusal.Refusal.{Refusal}
use Rattle.tracks_rules.specs.declared.track.Track.{Track}

-- ---- the question, with a table of so many numbers

-- It reads the payload under AE, the id that document 01, Kinds, gives for Tracks, so that the full set of masters
-- holds for its direct children; then goes to the k-th entry.
abbrev pub track_asked : (live : Bool) → List ℕ → (start size k numbers : ℕ) → Asked
track_asked live s start size k numbers = asked live s start size 0xAE numbers (way (Nth 0xAE k) Here Here)

-- ---- the promise

abbrev pub TrackPromise :
    (live : Bool) (s : List ℕ) (start size k : ℕ) (t : List ℕ) (r : Result (Track × ℕ) Refusal) (t' : List ℕ) → Type 0
TrackPromise live s start size k t r t' =
    RecordPromise (track_of s) (track_asked live s start size k (length t)) (length t) (track_told r) t'
