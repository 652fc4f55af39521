-- What `after`, the last number of a row, means (document 02, C-15): the statement of a theorem on an accepted read,
-- and a payload whose numbers are worked out.
use Rattle.std.specs.Prelude.{ℕ, suc, ◌*◌, ◌≤◌, ◌<◌, ◌≡◌, List, [], ◌∷◌, Bool, length}
use Rattle.elements_rules.specs.Rows.{width, rows_of, nth}
use Rattle.elements_rules.specs.Promise.{ReadPromise}
use Rattle.elements_rules.specs.declared.row.Row.{Row}
use Rattle.std.specs.Prelude.{Result, Ok}
use Rattle.refusals.specs.declared.refusal.Refusal.{Refusal}

-- Row j is a descendant of row k: its chain of parents leads to k.
pub data Descends (rs : List Row) (k : ℕ) : ℕ → Type 0 where
  child : (j : ℕ) → (nth rs j).parent ≡ suc k → Descends rs k j
  deeper : (j m : ℕ) → (nth rs j).parent ≡ suc m → Descends rs k m → Descends rs k j

-- Row k jumps ahead, at most to the row count. The rows from k + 1 up to before `after` are exactly its descendants, so
-- row `after`, where there is one, is not one of them. Where a sibling follows, the next one is row `after`.
pub record Jump (rs : List Row) (k : ℕ) : Type 0 where
  pub ahead : k < (nth rs k).after
  pub held : (nth rs k).after ≤ length rs
  pub inside : (j : ℕ) → k < j → j < (nth rs k).after → Descends rs k j
  pub only : (j : ℕ) → Descends rs k j → (k < j) × (j < (nth rs k).after)
  pub sibling :
      (j : ℕ) → k < j → j < length rs → (nth rs j).parent ≡ (nth rs k).parent
      → ((nth rs k).after ≤ j) × ((nth rs (nth rs k).after).parent ≡ (nth rs k).parent)

-- After an accepted read each row does so; n is how many rows there are, so none jumps past it.
abbrev pub JumpsOver : Type 0
JumpsOver =
    (live : Bool) (s : List ℕ) (start size parent : ℕ) (t : List ℕ) (n : ℕ) (t' : List ℕ)
    → ReadPromise live s start size parent t (Ok n) t'
    → (length (rows_of t' n) ≡ n) × ((k : ℕ) → k < n → Jump (rows_of t' n) k)

-- A master in a master around a leaf, and a leaf behind them: 3, 3, 3 and 4, the row count.
abbrev pub nested : List ℕ
nested = 0xA0 ∷ 0x84 ∷ 0xA0 ∷ 0x82 ∷ 0xEC ∷ 0x80 ∷ 0xEC ∷ 0x80 ∷ []

abbrev pub nested_table : List ℕ
nested_table =
    0xA0 ∷ 0 ∷ 0 ∷ 2 ∷ 4 ∷ 1 ∷ 0 ∷ 3
    ∷ 0xA0 ∷ 1 ∷ 2 ∷ 2 ∷ 2 ∷ 1 ∷ 1 ∷ 3
    ∷ 0xEC ∷ 2 ∷ 4 ∷ 2 ∷ 0 ∷ 6 ∷ 2 ∷ 3
    ∷ 0xEC ∷ 0 ∷ 6 ∷ 2 ∷ 0 ∷ 6 ∷ 0 ∷ 4 ∷ []

abbrev pub NestedJumps : Type 0
NestedJumps =
    (live : Bool) (t : List ℕ) (r : Result ℕ Refusal) (t' : List ℕ) → length t ≡ 4 * width
    → ReadPromise live nested 0 8 0 t r t'
    → (r ≡ Ok 4) × (t' ≡ nested_table)
