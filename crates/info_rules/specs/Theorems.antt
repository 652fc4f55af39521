-- What is proved of the definitions beside the contracts: the statements of the theorems.
use Rattle.std.specs.Prelude.{ℕ, List, Bool}
use Rattle.locate_rules.specs.Promise.{of_below}
use Rattle.locate_rules.specs.Theorems.{OneReply, OnlyListed, OnlyHonest, Addressed}
use Rattle.locate_rules.specs.Live.{BothModes}
use Rattle.info_rules.specs.Records.{info_of, family_fields}
use Rattle.info_rules.specs.Promise.{info_asked, family_asked, InfoPromise, FamilyPromise}
use Rattle.std.specs.Prelude.{Err}

-- Any two replies and tables that a promise permits to one question are equal (document 01, Strength of the promises).
-- The numbers that stood in the lent table do not matter, only how many there are.
abbrev pub OneInfo : Type 0
OneInfo = (live : Bool) (s : List ℕ) (start size k : ℕ) → OneReply (InfoPromise live s start size k)

abbrev pub OneFamily : Type 0
OneFamily = (live : Bool) (s : List ℕ) (start size k i : ℕ) → OneReply (FamilyPromise live s start size k i)

-- A refusal among the replies that a promise permits is one of the list (`Listed`).
pub record InfoRefusesListed : Type 0 where
  pub info : (live : Bool) (s : List ℕ) (start size k : ℕ) → OnlyListed Err (InfoPromise live s start size k)
  pub family :
      (live : Bool) (s : List ℕ) (start size k i : ℕ) → OnlyListed Err (FamilyPromise live s start size k i)

-- Where it broke: the payload's refusals are honest, and 14 and 15 have address 0.
pub record InfoHonest : Type 0 where
  pub info :
      (live : Bool) (s : List ℕ) (start size k : ℕ)
      → OnlyHonest live s start size 0x1549A966 Err (InfoPromise live s start size k)
  pub family :
      (live : Bool) (s : List ℕ) (start size k i : ℕ)
      → OnlyHonest live s start size 0x1549A966 Err (FamilyPromise live s start size k i)

-- Every address in a record that is told is the payload's place of one of the rows that the table holds at exit.
pub record InfoAddressed : Type 0 where
  pub info :
      (live : Bool) (s : List ℕ) (start size k : ℕ) → Addressed (of_below (info_of s)) (info_asked live s start size k)
  pub family :
      (live : Bool) (s : List ℕ) (start size k i : ℕ)
      → Addressed (family_fields i) (family_asked live s start size k i)

-- Live mode beside old mode (document 02, C-18): 17, or the equal reply and table; and these where all sizes that are
-- read are known. It shuts out a live mode that tells the fields before an element of unknown size.
pub record InfoLive : Type 0 where
  pub info :
      (s : List ℕ) (start size k : ℕ)
      → BothModes s start size 0x1549A966 Err (λ (live : Bool). InfoPromise live s start size k)
  pub family :
      (s : List ℕ) (start size k i : ℕ)
      → BothModes s start size 0x1549A966 Err (λ (live : Bool). FamilyPromise live s start size k i)
