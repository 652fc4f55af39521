-- What the functions of `walks` ask.
use Rattle.std.specs.Prelude.{ℕ, ◌≤◌, ◌≡◌, List, length}
use Rattle.header.specs.Promise.{most_bytes}
use Rattle.header.specs.Reads.{header_at}
use Rattle.header.specs.declared.cursor.Headed.{Headed}
use Rattle.std.specs.Prelude.{Ok}

-- What a reader of an element asks: a recording within its limit, and an element whose header was read in it.
pub record Readable (s : List ℕ) (e : Headed) : Type 0 where
  pub small : length s ≤ most_bytes
  pub there : header_at s e.place.at ≡ Ok e
