-- What the public call `is_utf8` promises of its answer.
use Rattle.std.specs.Prelude.{ℕ, ◌≡◌, List, Bool}
use Rattle.utf8.specs.Utf8.{utf8}

pub record Utf8Promise (s : List ℕ) (r : Bool) : Type 0 where
  pub answer : r ≡ utf8 s
