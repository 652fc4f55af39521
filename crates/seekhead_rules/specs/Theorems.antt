-- What is proved of the definitions beside the contracts: the statement of the theorem.
use Rattle.std.specs.Prelude.{ℕ, ◌≡◌, List, [], ◌∷◌}
use Rattle.seekhead_rules.specs.Table.{latest, positions}
use Rattle.seekhead_rules.specs.declared.seek.Seek.{Seek}
use Rattle.seekhead_rules.specs.declared.head.Wanted.{Wanted}
use Rattle.seekhead_rules.specs.declared.head.Positions.{Positions}
use Rattle.std.specs.Prelude.{Option}

-- The latest position of each id of a list.
unfoldable pub latest_each : List ℕ → List Seek → List (Option ℕ)
latest_each [] seeks = []
latest_each (id ∷ ids) seeks = latest id seeks ∷ latest_each ids seeks

-- The wanted ids and their positions as lists.
abbrev pub ids_of : Wanted → List ℕ
ids_of w = w.first ∷ w.second ∷ w.third ∷ w.fourth ∷ w.fifth ∷ []

abbrev pub positions_of : Positions → List (Option ℕ)
positions_of p = p.first ∷ p.second ∷ p.third ∷ p.fourth ∷ p.fifth ∷ []

-- The positions of a set are those of its ids, each in its own place. It shuts out a table whose second id has the
-- position of the first.
abbrev pub PositionsEach : Type 0
PositionsEach =
    (wanted : Wanted) (seeks : List Seek) → positions_of (positions wanted seeks) ≡ latest_each (ids_of wanted) seeks
