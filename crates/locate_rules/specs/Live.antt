-- Live mode beside old mode (document 02, C-18), of every record question: the statements of theorems, each with a
-- wrong reader that it shuts out.
use Rattle.std.specs.Prelude.{ℕ, ◌/◌, ◌≡◌, List, ◌⊎◌, Bool, true, false, length}
use Rattle.refusals.specs.Refusals.{unknown_size}
use Rattle.refusals.specs.declared.refusal.Refusal.{Refusal}
use Rattle.elements_rules.specs.Rows.{width}
use Rattle.elements_rules.specs.Promise.{keeping, allowed}
use Rattle.elements_rules.specs.Faults.{Comes}
use Rattle.elements_rules.specs.Live.{AllKnown}
use Rattle.elements_rules.specs.declared.row.Row.{Row}
use Rattle.fields_rules.specs.Values.{FieldValue}
use Rattle.locate_rules.specs.Asked.{asked, listed}
use Rattle.locate_rules.specs.Told.{Answer, refusal}
use Rattle.locate_rules.specs.Promise.{RecordPromise}
use Rattle.locate_rules.specs.declared.steps.Way.{Way}
use Rattle.std.specs.Prelude.{Option}

-- No header that old mode reads in the payload, with a table of so many numbers, has an unknown size; it reads none
-- where it ends in 14.
abbrev pub PayloadKnown : List ℕ → (start size parent numbers : ℕ) → Type 0
PayloadKnown s start size parent numbers =
    allowed s start numbers ≡ true
    → AllKnown s (Comes s (keeping false) (numbers / width) 0 parent start size 0)

-- The replies of a question that reads a payload under that parent id, by the mode, the table at entry, the reply and
-- the table at exit.
pub record BothModes
    {R : Type 0} (s : List ℕ) (start size parent : ℕ) (refused : Refusal → R)
    (Permits : Bool → List ℕ → R → List ℕ → Type 0) : Type 0 where
  -- In live mode it is 17, or reply and table are old mode's. It shuts out a live mode that ends a payload at an
  -- element of unknown size and tells the record of the rows before it, or 15.
  pub live_or :
      (t : List ℕ) (r r' : R) (t' u' : List ℕ) → Permits false t r t' → Permits true t r' u'
      → ((a : ℕ) × (r' ≡ refused (unknown_size a))) ⊎ ((r' ≡ r) × (u' ≡ t'))
  -- Where all sizes that are read are known, reply and table are equal. It shuts out a live mode that gives 17 for
  -- bytes of all ones that are no size: a number, or the bytes of a file.
  pub equal :
      (t : List ℕ) (r r' : R) (t' u' : List ℕ) → PayloadKnown s start size parent (length t)
      → Permits false t r t' → Permits true t r' u' → (r' ≡ r) × (u' ≡ t')

-- The same of the answer to any record question, and to one for a list member.
pub record AnswerModes : Type 0 where
  pub of_record :
      (values : List Row → ℕ → List FieldValue) (s : List ℕ) (start size parent : ℕ) (w : Way)
      → BothModes s start size parent refusal (λ (live : Bool) (t : List ℕ) (x : Answer) (t' : List ℕ).
      RecordPromise values (asked live s start size parent (length t) w) (length t) x t')
  pub of_member :
      (values : List Row → ℕ → List FieldValue) (member : List Row → ℕ → Option (ℕ × Row)) (s : List ℕ)
      (start size parent : ℕ) (w : Way)
      → BothModes s start size parent refusal (λ (live : Bool) (t : List ℕ) (x : Answer) (t' : List ℕ).
      RecordPromise values (listed (asked live s start size parent (length t) w) member) (length t) x t')
