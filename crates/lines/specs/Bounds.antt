-- How far the counts of a program's input go.
use Rattle.std.specs.Prelude.{ℕ, ◌+◌, ◌≤◌, ◌<◌, Option, Result, IfOk, IfSome}
use Rattle.std.specs.declared.io.Error.{Error}

-- What a read brought is something, and fits behind what was held.
abbrev pub Behind : ℕ → ℕ → Result (Option ℕ) Error → Type 0
Behind held room read = IfOk read (λ bytes. IfSome bytes (λ n. (0 < n) × (held + n ≤ room)))
