-- What each question for a record of Tags promises of its reply and of the table.
use Rattle.std.specs.Prelude.{ℕ, List, Bool, length}
use Rattle.locate_rules.specs.Steps.{way}
use Rattle.locate_rules.specs.Asked.{Asked, asked, listed}
use Rattle.locate_rules.specs.Promise.{RecordPromise, of_below}
use Rattle.locate_rules.specs.declared.steps.Step.TheVariants.{Here, Nth, Last}
use Rattle.tags_rules.specs.Records.{tag_of, uid_of, member_of, simple_of}
use Rattle.tags_rules.specs.Told.{tag_told, uid_told, simple_told}
use Rattle.tags_rules.specs.declared.uid.UidList.{UidList}
use Rattle.std.specs.Prelude.{Result}
use Rattle.refusals.specs.declared.refusal.Refusal.{Refusal}
use Rattle.tags_rules.specs.declared.simple.SimpleTag.{SimpleTag}
use Rattle.tags_rules.specs.declared.tag.Tag.{Tag}

-- ---- the questions, with a table of so many numbers

-- Each reads the payload under 7373, the id that document 01, Kinds, gives for Tags, so that the full set of masters
-- holds for its direct children; then a step for each level.
module _ (live : Bool) (s : List ℕ) (start size k : ℕ) where
  abbrev pub tag_asked : (numbers : ℕ) → Asked
  tag_asked numbers = asked live s start size 0x7373 numbers (way (Nth 0x7373 k) Here Here)

  -- A member of a list of the last Targets.
  abbrev pub uid_asked : UidList → (i numbers : ℕ) → Asked
  uid_asked list i numbers =
      listed (asked live s start size 0x7373 numbers (way (Nth 0x7373 k) (Last 0x63C0) Here)) (member_of list i)

  abbrev pub simple_asked : (i numbers : ℕ) → Asked
  simple_asked i numbers = asked live s start size 0x7373 numbers (way (Nth 0x7373 k) (Nth 0x67C8 i) Here)

-- ---- the promises

abbrev pub TagPromise : (live : Bool) (s : List ℕ) (start size k : ℕ) (t : List ℕ) (r : Result (Tag × ℕ) Refusal) (t' : List ℕ) → Type 0
TagPromise live s start size k t r t' =
    RecordPromise (tag_of s) (tag_asked live s start size k (length t)) (length t) (tag_told r) t'

abbrev pub UidPromise :
    (live : Bool) (s : List ℕ) (start size k : ℕ) (list : UidList) (i : ℕ) (t : List ℕ) (r : Result (ℕ × ℕ) Refusal) (t' : List ℕ)
    → Type 0
UidPromise live s start size k list i t r t' =
    RecordPromise (uid_of s list i) (uid_asked live s start size k list i (length t)) (length t) (uid_told r) t'

abbrev pub SimplePromise :
    (live : Bool) (s : List ℕ) (start size k i : ℕ) (t : List ℕ) (r : Result (SimpleTag × ℕ) Refusal) (t' : List ℕ) → Type 0
SimplePromise live s start size k i t r t' =
    RecordPromise (of_below (simple_of s)) (simple_asked live s start size k i (length t)) (length t) (simple_told r) t'
