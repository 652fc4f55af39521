-- What is proved of the definitions beside the contracts: the statements of the theorems.
use Rattle.std.specs.Prelude.{ℕ, ◌+◌, ◌<◌, ◌≡◌, List, [], ◌∷◌, Bool, length}
use Rattle.refusals.specs.Theorems.{Listed}
use Rattle.refusals.specs.declared.refusal.Refusal.{Refusal}
use Rattle.elements_rules.specs.Rows.{rows_of, nth}
use Rattle.elements_rules.specs.Promise.{ReadPromise}
use Rattle.elements_rules.specs.Faults.{HonestReading}
use Rattle.elements_rules.specs.declared.row.Row.{Row}
use Rattle.fields_rules.specs.Values.{FieldValue, unset, number, flag, content, iso, ietf, text, binary, real, date}
use Rattle.fields_rules.specs.Values.{count}
use Rattle.fields_rules.specs.Contract.{Readable}
use Rattle.fields_rules.specs.declared.child.Below.{Below}
use Rattle.locate_rules.specs.Asked.{Asked, found, asked, listed, table_after}
use Rattle.locate_rules.specs.Told.{Answer, fields, refusal}
use Rattle.locate_rules.specs.Contract.{Filled, Stands, FindMet}
use Rattle.locate_rules.specs.Promise.{RecordPromise}
use Rattle.locate_rules.specs.declared.steps.Way.{Way}
use Rattle.std.specs.Prelude.{Option, Ok, Some}

-- Any two answers and tables that the promise permits to one question are equal (document 01, Strength of the
-- promises). The numbers that stood in the lent table do not matter, only how many there are.
abbrev pub OneAnswer : Type 0
OneAnswer =
    (values : List Row → ℕ → List FieldValue) (ask : ℕ → Asked) (n m : ℕ) (x y : Answer) (t' u' : List ℕ) → n ≡ m
    → RecordPromise values (ask n) n x t' → RecordPromise values (ask m) m y u' → (x ≡ y) × (t' ≡ u')

-- The same of the replies of a question: by the table at entry, the reply and the table at exit.
abbrev pub OneReply : {R : Type 0} → (List ℕ → R → List ℕ → Type 0) → Type 0
OneReply {R} Permits =
    (t u : List ℕ) (r r' : R) (t' u' : List ℕ) → length t ≡ length u → Permits t r t' → Permits u r' u'
    → (r ≡ r') × (t' ≡ u')

-- A refusal among the replies that a promise permits is one of the list (`Listed`).
abbrev pub OnlyListed : {R : Type 0} → (Refusal → R) → (List ℕ → R → List ℕ → Type 0) → Type 0
OnlyListed refused Permits = (t : List ℕ) (e : Refusal) (t' : List ℕ) → Permits t (refused e) t' → Listed e

-- Where it broke (document 02, C-12): a payload under that parent id is refused as the public read refuses it, at the
-- first element with a fault; 14 and 15 have address 0.
abbrev pub OnlyHonest :
    {R : Type 0} → (live : Bool) → List ℕ → (start size parent : ℕ) → (Refusal → R)
    → (List ℕ → R → List ℕ → Type 0) → Type 0
OnlyHonest live s start size parent refused Permits =
    (t : List ℕ) (e : Refusal) (t' : List ℕ) → Permits t (refused e) t'
    → HonestReading live s start size parent (length t) e

-- The same of the answer to any record question, and to one for a list member.
pub record AnswerHonest : Type 0 where
  pub of_record :
      (live : Bool) (values : List Row → ℕ → List FieldValue) (s : List ℕ) (start size parent numbers : ℕ) (w : Way)
      (e : Refusal) (t' : List ℕ)
      → RecordPromise values (asked live s start size parent numbers w) numbers (refusal e) t'
      → HonestReading live s start size parent numbers e
  pub of_member :
      (live : Bool) (values : List Row → ℕ → List FieldValue) (member : List Row → ℕ → Option (ℕ × Row)) (s : List ℕ)
      (start size parent numbers : ℕ) (w : Way) (e : Refusal) (t' : List ℕ)
      → RecordPromise values (listed (asked live s start size parent numbers w) member) numbers (refusal e) t'
      → HonestReading live s start size parent numbers e

-- ---- each thing that is named has its address

-- A place is the payload of one of the rows.
pub record PayloadOf (rs : List Row) (at n : ℕ) : Type 0 where
  pub row : ℕ
  pub there : row < length rs
  pub begins : (nth rs row).address + (nth rs row).header ≡ at
  pub long : (nth rs row).payload ≡ n

-- The place that a value names is the payload of a row; a number names none.
abbrev pub Placed : List Row → FieldValue → Type 0
Placed rs unset = Unit
Placed rs (number v) = Unit
Placed rs (flag b) = Unit
Placed rs (content at n) = PayloadOf rs at n
Placed rs (iso at n) = PayloadOf rs at n
Placed rs (ietf at n) = PayloadOf rs at n
Placed rs (text at n) = PayloadOf rs at n
Placed rs (binary at n) = PayloadOf rs at n
Placed rs (real x) = Unit
Placed rs (date z) = Unit
Placed rs (count v) = Unit

unfoldable pub AllPlaced : List Row → List FieldValue → Type 0
AllPlaced rs [] = Unit
AllPlaced rs (v ∷ vs) = Placed rs v × AllPlaced rs vs

-- Every address in a record that is told is the payload's place of one of the rows that the table holds at exit.
abbrev pub Addressed : (List Row → ℕ → List FieldValue) → (ℕ → Asked) → Type 0
Addressed values ask =
    (numbers : ℕ) (vs : List FieldValue) (n : ℕ) (t' : List ℕ)
    → RecordPromise values (ask numbers) numbers (fields vs n) t' → AllPlaced (rows_of t' n) vs

-- ---- the table is the read's

-- After an accepted read a table is filled, so that `find` and the builders of records may be asked.
abbrev pub FilledAfterRead : Type 0
FilledAfterRead =
    (live : Bool) (s : List ℕ) (start size parent : ℕ) (t : List ℕ) (n : ℕ) (t' : List ℕ)
    → ReadPromise live s start size parent t (Ok n) t' → Filled s t' n

-- And a master that `find` gives in it stands there: the builders ask no more, those that need the other rows too ask
-- `Stands`, the others `Readable`.
abbrev pub FoundStands : Type 0
FoundStands =
    (s t : List ℕ) (rows : ℕ) (w : Way) (b : Below) → Filled s t rows → FindMet t rows w (Some b)
    → Stands s t rows b × Readable s t b

-- A question that is not refused leaves the table that the public read leaves, and counts its rows: all that is proved
-- of an accepted read holds of it.
abbrev pub RecordIsRead : Type 0
RecordIsRead =
    (live : Bool) (s : List ℕ) (start size parent : ℕ) (t : List ℕ) (w : Way) (rs : List Row) (master : ℕ)
    → asked live s start size parent (length t) w ≡ found rs master
    → ReadPromise live s start size parent t (Ok (length rs)) (table_after (length t) (found rs master))

-- The same of the promise itself: a record that is told leaves the table that the public read leaves, and counts its
-- rows.
abbrev pub AnswerIsRead : Type 0
AnswerIsRead =
    (live : Bool) (values : List Row → ℕ → List FieldValue) (s : List ℕ) (start size parent : ℕ) (t : List ℕ) (w : Way)
    (vs : List FieldValue) (n : ℕ) (t' : List ℕ)
    → RecordPromise values (asked live s start size parent (length t) w) (length t) (fields vs n) t'
    → ReadPromise live s start size parent t (Ok n) t'

-- And of the question for a list member.
abbrev pub MemberIsRead : Type 0
MemberIsRead =
    (live : Bool) (values : List Row → ℕ → List FieldValue) (member : List Row → ℕ → Option (ℕ × Row)) (s : List ℕ)
    (start size parent : ℕ) (t : List ℕ) (w : Way) (vs : List FieldValue) (n : ℕ) (t' : List ℕ)
    → RecordPromise values (listed (asked live s start size parent (length t) w) member) (length t) (fields vs n) t'
    → ReadPromise live s start size parent t (Ok n) t'
