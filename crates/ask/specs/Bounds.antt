-- How far the counts of the program go.
use Rattle.std.specs.Prelude.{ℕ, ◌<◌}

-- There is room behind the unfinished line.
abbrev pub Roomy : ℕ → Type 0
Roomy held = held < 1048576
