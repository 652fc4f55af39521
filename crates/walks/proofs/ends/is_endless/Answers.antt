-- `is_endless` meets its contract. Assumes nothing.
use mathlib.Core.Path.{refl}
use borrow.Author.Tests.{ne_eqb}
use Rattle.walks.proofs.ends.is_endless.Goals as goal

pub returns-then-id-eq-SEGMENT : goal.returns-then-id-eq-SEGMENT
returns-then-id-eq-SEGMENT c = rw c.if-id-eq-SEGMENT.true refl

pub returns-else-id-eq-SEGMENT : goal.returns-else-id-eq-SEGMENT
returns-else-id-eq-SEGMENT c = rw (ne_eqb _ _ c.if-id-eq-SEGMENT.false) refl
