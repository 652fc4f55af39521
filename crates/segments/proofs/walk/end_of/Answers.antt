-- `end_of` meets its contract. Assumes nothing.
use mathlib.Core.Path.{refl}
use Rattle.segments.proofs.walk.end_of.Goals as goal

pub returns-in-Sized : goal.returns-in-Sized
returns-in-Sized c = rw c.in-Sized.is refl

pub returns-in-Endless : goal.returns-in-Endless
returns-in-Endless c = rw c.in-Endless.is refl
