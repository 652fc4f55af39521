-- What is proved of the definitions beside the contracts: the statements of the theorems.
use Rattle.std.specs.Prelude.{ℕ, ◌+◌, ◌<◌, ◌≡◌, List, ◌⊎◌, Bool, true, ◌||◌, length}
use Rattle.refusals.specs.Refusals.{bad_argument}
use Rattle.refusals.specs.Theorems.{Listed}
use Rattle.refusals.specs.declared.refusal.Refusal.{Refusal}
use Rattle.elements_rules.specs.Forest.{Forest, count}
use Rattle.elements_rules.specs.Reading.{done}
use Rattle.elements_rules.specs.Rows.{row_at, rows_of, nth}
use Rattle.elements_rules.specs.Holds.{in_header, in_leaf}
use Rattle.elements_rules.specs.Promise.{ReadPromise}
use Rattle.elements_rules.specs.Faults.{HonestReading}
use Rattle.elements_rules.specs.declared.row.Row.{Row}
use Rattle.places_rules.specs.Payload.{range, payload_range}
use Rattle.places_rules.specs.Whose.{asked_of}
use Rattle.places_rules.specs.Promise.{RangePromise, PayloadPromise, WhosePromise}
use Rattle.places_rules.specs.declared.whose.WhoseRow.TheVariants.{Header, Payload}
use Rattle.std.specs.Prelude.{Result, Ok, Err}
use Rattle.bodies_rules.specs.declared.body.Range.{Range}
use Rattle.places_rules.specs.declared.whose.WhoseRow.{WhoseRow}

-- Any two replies that a promise permits to one question are equal (document 01, Strength of the promises).
abbrev pub OneRange : Type 0
OneRange = (s t : List ℕ) (row : ℕ) (r r' : Result Range Refusal) → RangePromise s t row r → RangePromise s t row r' → r ≡ r'

abbrev pub OnePayload : Type 0
OnePayload =
    (s t : List ℕ) (row : ℕ) (part part' : List ℕ) → PayloadPromise s t row part → PayloadPromise s t row part'
    → part ≡ part'

-- The numbers that stood in the lent table do not matter, only how many there are.
abbrev pub OneOwner : Type 0
OneOwner =
    (live : Bool) (s : List ℕ) (start size parent x : ℕ) (t u : List ℕ) (r r' : Result WhoseRow Refusal) (t' u' : List ℕ)
    → length t ≡ length u
    → WhosePromise live s start size parent x t r t' → WhosePromise live s start size parent x u r' u'
    → (r ≡ r') × (t' ≡ u')

-- A refusal that a promise permits is one of the list (`Listed`).
pub record PlacesRefuseListed : Type 0 where
  pub range : (s t : List ℕ) (row : ℕ) (e : Refusal) → RangePromise s t row (Err e) → Listed e
  pub owner :
      (live : Bool) (s : List ℕ) (start size parent x : ℕ) (t : List ℕ) (e : Refusal) (t' : List ℕ)
      → WhosePromise live s start size parent x t (Err e) t' → Listed e

-- Where it broke (document 02, C-12): a range is refused with 14 alone, at 0; the payload of the address question is
-- refused as the public read refuses it, at the first element with a fault.
pub record PlacesHonest : Type 0 where
  pub range : (s t : List ℕ) (row : ℕ) (e : Refusal) → RangePromise s t row (Err e) → e ≡ bad_argument
  pub owner :
      (live : Bool) (s : List ℕ) (start size parent x : ℕ) (t : List ℕ) (e : Refusal) (t' : List ℕ)
      → WhosePromise live s start size parent x t (Err e) t' → HonestReading live s start size parent (length t) e

-- The owner of an address among rows: one of them holds it, by its header or by its leaf payload as the reply says, and
-- no other row holds it.
pub record Owner (rs : List Row) (x : ℕ) (r : Result WhoseRow Refusal) : Type 0 where
  pub row : ℕ
  pub there : row < length rs
  pub only : (m : ℕ) → m < length rs → (in_header (nth rs m) x || in_leaf (nth rs m) x) ≡ true → m ≡ row
  pub which :
      ((r ≡ Ok (Header row (length rs))) × (in_header (nth rs row) x ≡ true))
      ⊎ ((r ≡ Ok (Payload row (length rs))) × (in_leaf (nth rs row) x ≡ true))

-- Where the payload is read, the address has exactly one owner among the rows that the table holds at exit, and the
-- reply names it: 'no such row' is never the reason of a refusal.
abbrev pub OneRowOwns : Type 0
OneRowOwns =
    (live : Bool) (s : List ℕ) (start size parent x : ℕ) (t : List ℕ) (r : Result WhoseRow Refusal) (t' : List ℕ) (f : Forest)
    → WhosePromise live s start size parent x t r t' → asked_of live s start size parent x (length t) ≡ done f
    → Owner (rows_of t' (count f)) x r

-- Each row of an accepted read has its payload in the recording: its range is not refused.
abbrev pub RowsHaveRanges : Type 0
RowsHaveRanges =
    (live : Bool) (s : List ℕ) (start size parent : ℕ) (t : List ℕ) (n : ℕ) (t' : List ℕ)
    → ReadPromise live s start size parent t (Ok n) t'
    → (k : ℕ) → k < n
    → payload_range s t' k ≡ range ((row_at t' k).address + (row_at t' k).header) (row_at t' k).payload
