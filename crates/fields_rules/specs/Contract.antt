-- What the readers of fields ask of a table, and what `rows_below` gives.
use Rattle.std.specs.Prelude.{ℕ, suc, ◌+◌, ◌/◌, ◌≤◌, ◌<◌, ◌≡◌, List, length}
use Rattle.header.specs.Promise.{most_bytes}
use Rattle.kinds.specs.Kinds.{number_of}
use Rattle.kinds.specs.declared.kind.Kind.{Kind}
use Rattle.elements_rules.specs.Rows.{width, row_at, rows_of, nth}
use Rattle.elements_rules.specs.Theorems.{Each, Sound}
use Rattle.elements_rules.specs.Jumps.{Jump}
use Rattle.elements_rules.specs.declared.row.Row.{Row}
use Rattle.fields_rules.specs.Children.{rows_in, subtree}
use Rattle.fields_rules.specs.declared.child.Below.{Below}

-- Row n jumps ahead, not past row `end`, and only over rows whose parent is row n or one behind it.
pub record Steps (t : List ℕ) (end n : ℕ) : Type 0 where
  pub ahead : n < (row_at t n).after
  pub held : (row_at t n).after ≤ end
  pub over : (j : ℕ) → n < j → j < (row_at t n).after → n < (row_at t j).parent

-- The rows below a master lie in the table, and each jumps ahead among them.
pub record Within (t : List ℕ) (b : Below) : Type 0 where
  pub some : b.parent ≤ b.end
  pub held : b.end ≤ length t / width
  pub steps : (n : ℕ) → b.parent ≤ n → n < b.end → Steps t b.end n

-- And each of them is sound: it stands in the recording, and a leaf's body is a value of its kind.
pub record Readable (s t : List ℕ) (b : Below) : Type 0 where
  pub within : Within t b
  pub short : length s ≤ most_bytes
  pub sound : Each (Sound s) (rows_in t b)

-- A row of this kind that can be read.
pub record Holds (s : List ℕ) (kind : Kind) (r : Row) : Type 0 where
  pub short : length s ≤ most_bytes
  pub sound : Sound s r
  pub is : r.kind ≡ number_of kind

-- The rows below the master `parent`, among the first `rows` of a table.
pub record BelowIs (t : List ℕ) (rows parent : ℕ) (b : Below) : Type 0 where
  pub master : b.parent ≡ parent
  pub some : b.parent ≤ b.end
  pub held : b.end ≤ rows
  pub are : rows_in t b ≡ subtree (rows_of t rows) parent
  pub steps : (n : ℕ) → b.parent ≤ n → n < b.end → Steps t b.end n

-- Row k jumps over its descendants, and these are the rows below it.
pub record Jumped (rs : List Row) (k : ℕ) : Type 0 where
  pub jump : Jump rs k
  pub below : (nth rs k).after ≡ suc k + length (subtree rs (suc k))

-- Each of the first rows of a table does.
abbrev pub AllJump : List ℕ → ℕ → Type 0
AllJump t rows = (k : ℕ) → k < rows → Jumped (rows_of t rows) k

-- The first rows of a table lie in it, and each of them jumps over the rows below it.
pub record Ordered (t : List ℕ) (rows : ℕ) : Type 0 where
  pub held : rows ≤ length t / width
  pub jumps : AllJump t rows
