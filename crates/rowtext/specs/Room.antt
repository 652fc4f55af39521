-- Room in the page, which `rowtext` and `listing` ask for; no part of what is listed.
use Rattle.std.specs.Prelude.{ℕ}

-- Enough for a row's line.
abbrev pub line_room : ℕ
line_room = 128
