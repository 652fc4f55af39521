-- What the readers of elements promise each other: how an outcome is told, and the table that they leave.
use Rattle.std.specs.Prelude.{ℕ, ◌+◌, ◌-◌, ◌*◌, ◌/◌, ◌≤◌, ◌≡◌, List, true, cond, length, drop, set}
use Rattle.std.proofs.lemmas.List.Edits.{sets}
use Rattle.header.specs.Promise.{most_bytes}
use Rattle.header.specs.declared.cursor.Cursor.{Cursor}
use Rattle.elements_rules.specs.Forest.{Forest, span, count}
use Rattle.elements_rules.specs.Reading.{Outcome, done, refused, depths, element, master_body}
use Rattle.elements_rules.specs.Rows.{rows, width, after_column, flatten}
use Rattle.elements_rules.specs.Promise.{zeros}
use Rattle.elements_rules.specs.declared.row.Row.{Row}
use Rattle.elements_rules.specs.declared.row.Mode.{Mode}
use Rattle.elements_rules.specs.declared.element.Above.{Above}
use Rattle.std.specs.Prelude.{Result, Ok, Err}
use Rattle.refusals.specs.declared.refusal.Refusal.{Refusal}

-- The answer of a reader that began at a place with n rows before it.
abbrev pub step_of : (at n : ℕ) → Outcome → Result (ℕ × Cursor) Refusal
step_of at n (done f) = Ok (n + count f, record { at = at + span f })
step_of at n (refused e) = Err e

-- The table t with those rows from row n on, where rows are kept.
unfoldable pub written : Mode → List ℕ → ℕ → List Row → List ℕ
written mode t n rs = cond mode.keep (sets t (n * width) (flatten rs)) t

-- The table t with the last number of row n set, where rows are kept: what is known of a master once its children are
-- read.
unfoldable pub closed : Mode → List ℕ → (n after : ℕ) → List ℕ
closed mode t n after = cond mode.keep (set t (n * width + after_column) after) t

-- Rows are kept only up to the table's end.
abbrev pub Room : Mode → List ℕ → ℕ → Type 0
Room mode t n = mode.keep ≡ true → n ≤ length t / width

-- What a reader at a place asks, with n rows before it: each row took a byte at least.
pub record Ready (s : List ℕ) (mode : Mode) (t : List ℕ) (at n : ℕ) : Type 0 where
  pub small : length s ≤ most_bytes
  pub inside : at ≤ length s
  pub few : n ≤ at
  pub room : Room mode t n

-- What a reader at a place gives of the outcome o: the answer r, and the table t' made of t. `low` is a lower bound
-- of the next place.
pub record Met
    (s : List ℕ) (mode : Mode) (low parent depth at n : ℕ) (o : Outcome) (t t' : List ℕ)
    (r : Result (ℕ × Cursor) Refusal) : Type 0 where
  pub reply : r ≡ step_of at n o
  pub table : (f : Forest) → o ≡ done f → t' ≡ written mode t n (rows parent depth at n f)
  pub goes :
      (f : Forest) → o ≡ done f
      → (low ≤ at + span f) × (at + span f ≤ length s) × (n + count f ≤ at + span f)
  pub room : (f : Forest) → o ≡ done f → Room mode t (n + count f)

-- What `element` gives at a place, and `master_body` for a payload there: each under what stands above it.
abbrev pub ElementMet : List ℕ → Mode → (place : Cursor) (n : ℕ) → Above → (t t' : List ℕ) → Result (ℕ × Cursor) Refusal → Type 0
ElementMet s mode place n above t t' r =
    Met s mode (place.at + 1) above.row above.depth place.at n
    (element s mode (length t / width) (depths - above.depth) above.id place.at n) t t' r

abbrev pub BodyMet : List ℕ → Mode → (from : Cursor) (size n : ℕ) → Above → (t t' : List ℕ) → Result (ℕ × Cursor) Refusal → Type 0
BodyMet s mode from size n above t t' r =
    Met s mode from.at above.row above.depth from.at n
    (master_body s mode (length t / width) above.depth above.id from.at size n) t t' r

-- Behind so many rows a table has zeros alone.
abbrev pub ClearFrom : (rows : ℕ) → List ℕ → Type 0
ClearFrom rows t = drop (rows * width) t ≡ zeros (length t - rows * width)
