-- The cells of an answer.
use Rattle.std.specs.Prelude.{ℕ, ◌≡◌, ◌<◌, List, [], ◌∷◌, ◌++◌, length}
use Rattle.answers.specs.declared.told.Cell.{Cell}
use Rattle.answers.specs.declared.told.Value.{Value}
use Rattle.answers.specs.declared.told.Ending.{Ending}

-- Where there is room, one cell more stands behind those that there were; its value is one that the conversion gives.
abbrev pub OneMore :
    {V : Type 0} → (V → Value → Type 0) → ℕ → V → (List Cell × Ending) → (List Cell × Ending) → Type 0
OneMore converts word value old new =
    length old.0 < 32 → (v : Value) × converts value v × (new ≡ (old.0 ++ record { word = word; value = v } ∷ [], old.1))
