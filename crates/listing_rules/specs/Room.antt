-- Room in the page, which the functions within `listing` ask for; no part of what is listed.
use Rattle.std.specs.Prelude.{ℕ, ◌*◌}
use Rattle.rowtext.specs.Room.{line_room}

-- Enough for a part's line and those of 1,024 rows.
abbrev pub part_room : ℕ
part_room = 1025 * line_room
