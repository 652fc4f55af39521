-- What is proved of the definitions beside the contracts: the statements of the theorems.
use Rattle.std.specs.Prelude.{ℕ, List, Bool}
use Rattle.locate_rules.specs.Promise.{of_below}
use Rattle.locate_rules.specs.Theorems.{OneReply, OnlyListed, OnlyHonest, Addressed}
use Rattle.locate_rules.specs.Live.{BothModes}
use Rattle.tags_rules.specs.Records.{tag_of, uid_of, simple_of}
use Rattle.tags_rules.specs.Promise.{tag_asked, uid_asked, simple_asked}
use Rattle.tags_rules.specs.Promise.{TagPromise, UidPromise, SimplePromise}
use Rattle.tags_rules.specs.declared.uid.UidList.{UidList}
use Rattle.std.specs.Prelude.{Err}

-- Any two replies and tables that a promise permits to one question are equal (document 01, Strength of the promises).
-- The numbers that stood in the lent table do not matter, only how many there are.
abbrev pub OneTag : Type 0
OneTag = (live : Bool) (s : List ℕ) (start size k : ℕ) → OneReply (TagPromise live s start size k)

abbrev pub OneUid : Type 0
OneUid =
    (live : Bool) (s : List ℕ) (start size k : ℕ) (list : UidList) (i : ℕ)
    → OneReply (UidPromise live s start size k list i)

abbrev pub OneSimple : Type 0
OneSimple = (live : Bool) (s : List ℕ) (start size k i : ℕ) → OneReply (SimplePromise live s start size k i)

-- A refusal among the replies that a promise permits is one of the list (`Listed`).
pub record TagsRefuseListed : Type 0 where
  pub tag : (live : Bool) (s : List ℕ) (start size k : ℕ) → OnlyListed Err (TagPromise live s start size k)
  pub uid :
      (live : Bool) (s : List ℕ) (start size k : ℕ) (list : UidList) (i : ℕ)
      → OnlyListed Err (UidPromise live s start size k list i)
  pub simple :
      (live : Bool) (s : List ℕ) (start size k i : ℕ) → OnlyListed Err (SimplePromise live s start size k i)

-- Where it broke: the payload's refusals are honest, and 14 and 15 have address 0.
pub record TagsHonest : Type 0 where
  pub tag :
      (live : Bool) (s : List ℕ) (start size k : ℕ)
      → OnlyHonest live s start size 0x7373 Err (TagPromise live s start size k)
  pub uid :
      (live : Bool) (s : List ℕ) (start size k : ℕ) (list : UidList) (i : ℕ)
      → OnlyHonest live s start size 0x7373 Err (UidPromise live s start size k list i)
  pub simple :
      (live : Bool) (s : List ℕ) (start size k i : ℕ)
      → OnlyHonest live s start size 0x7373 Err (SimplePromise live s start size k i)

-- Every address in a record that is told is the payload's place of one of the rows that the table holds at exit.
pub record TagsAddressed : Type 0 where
  pub tag : (live : Bool) (s : List ℕ) (start size k : ℕ) → Addressed (tag_of s) (tag_asked live s start size k)
  pub uid :
      (live : Bool) (s : List ℕ) (start size k : ℕ) (list : UidList) (i : ℕ)
      → Addressed (uid_of s list i) (uid_asked live s start size k list i)
  pub simple :
      (live : Bool) (s : List ℕ) (start size k i : ℕ)
      → Addressed (of_below (simple_of s)) (simple_asked live s start size k i)

-- Live mode beside old mode (document 02, C-18): 17, or the equal reply and table; and these where all sizes that are
-- read are known. It shuts out a live mode that gives 15 for a list member where old mode does not.
pub record TagsLive : Type 0 where
  pub tag :
      (s : List ℕ) (start size k : ℕ)
      → BothModes s start size 0x7373 Err (λ (live : Bool). TagPromise live s start size k)
  pub uid :
      (s : List ℕ) (start size k : ℕ) (list : UidList) (i : ℕ)
      → BothModes s start size 0x7373 Err (λ (live : Bool). UidPromise live s start size k list i)
  pub simple :
      (s : List ℕ) (start size k i : ℕ)
      → BothModes s start size 0x7373 Err (λ (live : Bool). SimplePromise live s start size k i)
