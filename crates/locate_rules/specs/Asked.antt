-- The question for a record (document 01, Records): 14 and the read's refusals, then 15 where there is none; and the
-- table that it leaves.
use Rattle.std.specs.Prelude.{ℕ, ◌-◌, ◌*◌, List, ◌++◌, Bool, length}
use Rattle.refusals.specs.Refusals.{no_record}
use Rattle.refusals.specs.declared.refusal.Refusal.{Refusal}
use Rattle.elements_rules.specs.Reading.{Outcome, done, refused}
use Rattle.elements_rules.specs.Rows.{rows_at, width, flatten}
use Rattle.elements_rules.specs.Promise.{read_of, zeros}
use Rattle.elements_rules.specs.declared.row.Row.{Row}
use Rattle.locate_rules.specs.Steps.{reached}
use Rattle.locate_rules.specs.declared.steps.Way.{Way}
use Rattle.std.specs.Prelude.{Option, Some, None}

-- The rows that were read and the master among them, told as in a row's parent; or a refusal.
pub data Asked : Type 0 where
  found : List Row → ℕ → Asked
  refusing : Refusal → Asked

abbrev pub settled : List Row → Option ℕ → Asked
settled rs None = refusing no_record
settled rs (Some parent) = found rs parent

-- What is sought among the rows of a read.
abbrev pub sought : ℕ → Outcome → (List Row → Option ℕ) → Asked
sought start (done f) way = settled (rows_at start f) (way (rows_at start f))
sought start (refused e) way = refusing e

-- The payload is read under a parent id into a table of so many numbers; then the way is gone.
unfoldable pub asked : (live : Bool) → List ℕ → (start size parent numbers : ℕ) → Way → Asked
asked live s start size parent numbers w = sought start (read_of live s start size parent numbers) (λ rs. reached rs w)

-- And 15 where the master has no such child.
abbrev pub has_member : Asked → Option (ℕ × Row) → Asked
has_member a None = refusing no_record
has_member a (Some (n, r)) = a

abbrev pub listed : Asked → (List Row → ℕ → Option (ℕ × Row)) → Asked
listed (found rs parent) member = has_member (found rs parent) (member rs parent)
listed (refusing e) member = refusing e

-- The table: as the read leaves it; after a refusal, 15 too, zeros.
abbrev pub table_after : ℕ → Asked → List ℕ
table_after numbers (found rs parent) = flatten rs ++ zeros (numbers - length rs * width)
table_after numbers (refusing e) = zeros numbers
