-- What the questions for Info promise of their replies and of the table.
use Rattle.std.specs.Prelude.{ℕ, List, Bool, length}
use Rattle.locate_rules.specs.Steps.{way}
use Rattle.locate_rules.specs.Asked.{Asked, asked, listed}
use Rattle.locate_rules.specs.Promise.{RecordPromise, of_below}
use Rattle.locate_rules.specs.declared.steps.Step.TheVariants.{Here, Only}
use Rattle.info_rules.specs.Records.{info_of, family_of, family_fields}
use Rattle.info_rules.specs.Told.{info_told, family_told}
use Rattle.std.specs.Prelude.{Result}
use Rattle.info_rules.specs.declared.info.Info.{Info}
use Rattle.bodies_rules.specs.declared.body.Range.{Range}
use Rattle.refusals.specs.declared.refusal.Refusal.{Refusal}

-- ---- the questions, with a table of so many numbers

-- The payload is that of an Info, and is read under that id (document 02, C-14), so that the small set of masters holds
-- for its direct children.
module _ (live : Bool) (s : List ℕ) (start size k : ℕ) where
  -- The whole payload is the one record.
  abbrev pub info_asked : (numbers : ℕ) → Asked
  info_asked numbers = asked live s start size 0x1549A966 numbers (way (Only k) Here Here)

  abbrev pub family_asked : (i numbers : ℕ) → Asked
  family_asked i numbers = listed (info_asked numbers) (family_of i)

-- ---- the promises

abbrev pub InfoPromise :
    (live : Bool) (s : List ℕ) (start size k : ℕ) (t : List ℕ) (r : Result (Info × ℕ) Refusal) (t' : List ℕ) → Type 0
InfoPromise live s start size k t r t' =
    RecordPromise (of_below (info_of s)) (info_asked live s start size k (length t)) (length t) (info_told r) t'

abbrev pub FamilyPromise :
    (live : Bool) (s : List ℕ) (start size k i : ℕ) (t : List ℕ) (r : Result (Range × ℕ) Refusal) (t' : List ℕ) → Type 0
FamilyPromise live s start size k i t r t' =
    RecordPromise (family_fields i) (family_asked live s start size k i (length t)) (length t) (family_told r) t'
