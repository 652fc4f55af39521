-- What is proved of the definitions beside the contracts: the statements of the theorems.
use Rattle.std.specs.Prelude.{ℕ, List, Bool}
use Rattle.locate_rules.specs.Promise.{of_below}
use Rattle.locate_rules.specs.Theorems.{OneReply, OnlyListed, OnlyHonest, Addressed}
use Rattle.locate_rules.specs.Live.{BothModes}
use Rattle.media_rules.specs.Records.{audio_of}
use Rattle.media_rules.specs.Promise.{audio_asked, AudioPromise}
use Rattle.std.specs.Prelude.{Err}

-- Any two replies and tables that a promise permits to one question are equal (document 01, Strength of the promises).
-- The numbers that stood in the lent table do not matter, only how many there are.
abbrev pub OneAudio : Type 0
OneAudio = (live : Bool) (s : List ℕ) (start size k : ℕ) → OneReply (AudioPromise live s start size k)

-- A refusal among the replies that the promise permits is one of the list (`Listed`).
pub record MediaRefuseListed : Type 0 where
  pub audio : (live : Bool) (s : List ℕ) (start size k : ℕ) → OnlyListed Err (AudioPromise live s start size k)

-- Where it broke: the payload's refusals are honest, and 14 and 15 have address 0.
pub record MediaHonest : Type 0 where
  pub audio :
      (live : Bool) (s : List ℕ) (start size k : ℕ)
      → OnlyHonest live s start size 0xE1 Err (AudioPromise live s start size k)

-- Every address in a record that is told is the payload's place of one of the rows that the table holds at exit.
pub record MediaAddressed : Type 0 where
  pub audio :
      (live : Bool) (s : List ℕ) (start size k : ℕ) → Addressed (of_below (audio_of s)) (audio_asked live s start size k)

-- Live mode beside old mode (document 02, C-18): 17, or the equal reply and table; and these where all sizes that are
-- read are known. It shuts out a live mode that leaves a field of unknown size unset.
pub record MediaLive : Type 0 where
  pub audio :
      (s : List ℕ) (start size k : ℕ)
      → BothModes s start size 0xE1 Err (λ (live : Bool). AudioPromise live s start size k)
