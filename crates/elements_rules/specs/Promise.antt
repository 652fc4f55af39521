-- What the public call `read` promises of its reply and of the table.
use Rattle.std.specs.Prelude.{ℕ, ◌*◌, ◌-◌, ◌/◌, ◌%◌, ◌≡◌, List, ◌++◌, Bool, true, ◌&&◌, not, length, replicate, leb, eqb}
use Rattle.header.specs.Promise.{most_bytes}
use Rattle.refusals.specs.Refusals.{bad_argument}
use Rattle.refusals.specs.Reply.{Reply, accepted, refusal}
use Rattle.elements_rules.specs.Forest.{count}
use Rattle.elements_rules.specs.Reading.{Outcome, done, refused, refuse_if, master_body}
use Rattle.elements_rules.specs.Rows.{rows_at, width, flatten}
use Rattle.elements_rules.specs.declared.row.Mode.{Mode}
use Rattle.std.specs.Prelude.{Result, Ok, Err}
use Rattle.refusals.specs.declared.refusal.Refusal.{Refusal}

-- The most rows that a table has (document 01, Numbers that bound a call).
abbrev pub most_rows : ℕ
most_rows = 4096

-- A read with rows, in live mode or in old mode.
abbrev pub keeping : (live : Bool) → Mode
keeping live = record { keep = true; live = live }

-- A table of so many numbers: whole rows, and not too many.
unfoldable pub is_table : (numbers : ℕ) → Bool
is_table numbers = eqb (numbers % width) 0 && leb numbers (most_rows * width)

-- What document 01 allows, with the row of document 02, C-15: a recording and a table within their limits, a start not
-- past the end.
unfoldable pub allowed : List ℕ → (start numbers : ℕ) → Bool
allowed s start numbers = leb (length s) most_bytes && (is_table numbers && leb start (length s))

-- The reading into a table of so many numbers: the payload's elements have depth 0.
unfoldable pub filled : (live : Bool) → List ℕ → (start size parent numbers : ℕ) → Outcome
filled live s start size parent numbers = master_body s (keeping live) (numbers / width) 0 parent start size 0

-- The public read: 14, then the reading.
unfoldable pub read_of : (live : Bool) → List ℕ → (start size parent numbers : ℕ) → Outcome
read_of live s start size parent numbers =
    refuse_if (not (allowed s start numbers)) bad_argument (filled live s start size parent numbers)

-- The reply: how many rows there are.
abbrev pub reply_of : Outcome → Reply ℕ
reply_of (done f) = accepted (count f)
reply_of (refused e) = refusal e

abbrev pub zeros : ℕ → List ℕ
zeros n = replicate n 0

-- The table: the rows and zeros beyond the last; after a refusal zeros alone.
unfoldable pub table_of : (start numbers : ℕ) → Outcome → List ℕ
table_of start numbers (done f) = flatten (rows_at start f) ++ zeros (numbers - count f * width)
table_of start numbers (refused e) = zeros numbers

-- Document 01's value for what `read` answers: the count of rows, or the refusal.
abbrev pub read_told : Result ℕ Refusal → Reply ℕ
read_told (Ok n) = accepted n
read_told (Err e) = refusal e

pub record ReadPromise
    (live : Bool) (s : List ℕ) (start size parent : ℕ) (t : List ℕ) (r : Result ℕ Refusal) (t' : List ℕ) : Type 0 where
  pub reply : read_told r ≡ reply_of (read_of live s start size parent (length t))
  pub table : t' ≡ table_of start (length t) (read_of live s start size parent (length t))
