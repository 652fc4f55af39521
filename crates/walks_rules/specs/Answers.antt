-- What follows a header that was read: a refusal ends the walk.
use Rattle.refusals.specs.declared.refusal.Refusal.{Refusal}
use Rattle.header.specs.declared.cursor.Headed.{Headed}
use Rattle.std.specs.Prelude.{Result, Ok, Err}

abbrev pub on_header : {A : Type 0} → Result Headed Refusal → (Refusal → A) → (Headed → A) → A
on_header (Ok e) stop next = next e
on_header (Err e) stop next = stop e
