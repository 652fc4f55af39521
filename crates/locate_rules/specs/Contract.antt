-- What the builders of records ask of a table, and what `find` and `locate` give.
use Rattle.std.specs.Prelude.{ℕ, suc, ◌^◌, ◌≤◌, ◌<◌, ◌≡◌, List, length}
use Rattle.header.specs.Promise.{most_bytes}
use Rattle.elements_rules.specs.Rows.{rows_of}
use Rattle.elements_rules.specs.Theorems.{Each, Sound}
use Rattle.fields_rules.specs.Contract.{BelowIs, Ordered}
use Rattle.fields_rules.specs.declared.child.Below.{Below}
use Rattle.locate_rules.specs.Steps.{reached}
use Rattle.locate_rules.specs.Asked.{Asked, found, refusing, table_after}
use Rattle.locate_rules.specs.declared.steps.Way.{Way}
use Rattle.std.specs.Prelude.{Result, Option, Ok, Err, Some, None}
use Rattle.refusals.specs.declared.refusal.Refusal.{Refusal}
use Rattle.elements_rules.specs.declared.row.Row.{Row}

-- A master that is there is one of the rows, or the payload itself.
abbrev pub Known : ℕ → Option ℕ → Type 0
Known rows None = Unit
Known rows (Some parent) = parent ≤ rows

-- A child's row number plus 1 is still a 64-bit number.
abbrev pub Numbered : Option (ℕ × Row) → Type 0
Numbered None = Unit
Numbered (Some (n, r)) = suc n < 2 ^ 64

-- ---- a filled table

-- The first `rows` rows of a table are in order and stand in the recording, as a read leaves them (`FilledAfterRead`).
pub record Filled (s t : List ℕ) (rows : ℕ) : Type 0 where
  pub ordered : Ordered t rows
  pub short : length s ≤ most_bytes
  pub sound : Each (Sound s) (rows_of t rows)

-- And a master among them has those rows below it.
pub record Stands (s t : List ℕ) (rows : ℕ) (b : Below) : Type 0 where
  pub filled : Filled s t rows
  pub below : BelowIs t rows b.parent b

-- ---- what is answered

-- Where a way leads among the rows of a table.
abbrev pub Leads : List ℕ → ℕ → Way → Option Below → Type 0
Leads t rows w None = reached (rows_of t rows) w ≡ None
Leads t rows w (Some b) = (reached (rows_of t rows) w ≡ Some b.parent) × BelowIs t rows b.parent b

pub record FindMet (t : List ℕ) (rows : ℕ) (w : Way) (r : Option Below) : Type 0 where
  pub leads : Leads t rows w r

-- What `locate` answers to a question.
abbrev pub Answers : List ℕ → List ℕ → Asked → Result (Below × ℕ) Refusal → Type 0
Answers s t a (Ok (b, rows)) = (a ≡ found (rows_of t rows) b.parent) × Stands s t rows b
Answers s t a (Err e) = a ≡ refusing e

pub record LocateMet (s : List ℕ) (a : Asked) (numbers : ℕ) (r : Result (Below × ℕ) Refusal) (t' : List ℕ) : Type 0 where
  pub reply : Answers s t' a r
  pub table : t' ≡ table_after numbers a
