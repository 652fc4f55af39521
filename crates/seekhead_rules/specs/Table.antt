-- The table of a search: the latest position of each wanted id (document 01, Seek tables and the search).
use Rattle.std.specs.Prelude.{ℕ, List, [], ◌∷◌, cond, eqb}
use Rattle.seekhead_rules.specs.declared.seek.Seek.{Seek}
use Rattle.seekhead_rules.specs.declared.head.Wanted.{Wanted}
use Rattle.seekhead_rules.specs.declared.head.Positions.{Positions}
use Rattle.std.specs.Prelude.{Option, Some, None}

abbrev pub on_latest : {A : Type 0} → Option ℕ → A → (ℕ → A) → A
on_latest None none some = none
on_latest (Some position) none some = some position

-- After one more entry: the last Seek of an id wins.
unfoldable pub later : ℕ → Option ℕ → Seek → Option ℕ
later id old seek = cond (eqb seek.id id) (Some seek.position) old

-- After more entries.
unfoldable pub latest_from : ℕ → Option ℕ → List Seek → Option ℕ
latest_from id old [] = old
latest_from id old (seek ∷ seeks) = latest_from id (later id old seek) seeks

abbrev pub latest : ℕ → List Seek → Option ℕ
latest id seeks = latest_from id None seeks

-- ---- a set of ids

-- The one id that a search for a part wants.
abbrev pub only : ℕ → Wanted
only id = record { first = id; second = 0; third = 0; fourth = 0; fifth = 0 }

-- The positions after more entries.
unfoldable pub positions_from : Wanted → Positions → List Seek → Positions
positions_from wanted old seeks = record {
  first = latest_from wanted.first old.first seeks;
  second = latest_from wanted.second old.second seeks;
  third = latest_from wanted.third old.third seeks;
  fourth = latest_from wanted.fourth old.fourth seeks;
  fifth = latest_from wanted.fifth old.fifth seeks;
}

abbrev pub no_positions : Positions
no_positions = record { first = None; second = None; third = None; fourth = None; fifth = None }

-- The latest position of each wanted id.
abbrev pub positions : Wanted → List Seek → Positions
positions wanted seeks = positions_from wanted no_positions seeks
