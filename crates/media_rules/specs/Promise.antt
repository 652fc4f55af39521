-- What the question for the settings of an audio track promises of its reply and of the table.
use Rattle.std.specs.Prelude.{ℕ, List, Bool, length}
use Rattle.locate_rules.specs.Steps.{way}
use Rattle.locate_rules.specs.Asked.{Asked, asked}
use Rattle.locate_rules.specs.Promise.{RecordPromise, of_below}
use Rattle.locate_rules.specs.declared.steps.Step.TheVariants.{Here, Only}
use Rattle.media_rules.specs.Records.{audio_of}
use Rattle.media_rules.specs.Told.{audio_told}
use Rattle.std.specs.Prelude.{Result}
use Rattle.media_rules.specs.declared.audio.Audio.{Audio}
use Rattle.refusals.specs.declared.refusal.Refusal.{Refusal}

-- ---- the questions, with a table of so many numbers

-- The payload is that of an E1, and is read under that id.
module _ (live : Bool) (s : List ℕ) (start size k : ℕ) where
  -- The whole payload is the one record.
  abbrev pub audio_asked : (numbers : ℕ) → Asked
  audio_asked numbers = asked live s start size 0xE1 numbers (way (Only k) Here Here)

-- ---- the promises

abbrev pub AudioPromise :
    (live : Bool) (s : List ℕ) (start size k : ℕ) (t : List ℕ) (r : Result (Audio × ℕ) Refusal) (t' : List ℕ) → Type 0
AudioPromise live s start size k t r t' =
    RecordPromise (of_below (audio_of s)) (audio_asked live s start size k (length t)) (length t) (audio_told r) t'
