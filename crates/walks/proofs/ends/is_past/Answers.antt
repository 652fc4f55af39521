-- `is_past` meets its contract: the known end, and for an element of unknown size the recording's. Assumes nothing.
use mathlib.Core.Path.{refl}
use borrow.Author.Tests.{le-leb, lt-leb}
use Rattle.walks_rules.specs.Step.{is_past}
use Rattle.walks.proofs.ends.is_past.Goals as goal

pub returns-then-end-at : goal.returns-then-end-at
unfolding is_past
returns-then-end-at c = rw (c.in-Endless.is, le-leb _ _ c.if-end-at.true) refl

pub returns-in-Sized : goal.returns-in-Sized
unfolding is_past
returns-in-Sized c = rw c.in-Sized.is refl

pub returns-else-end-at : goal.returns-else-end-at
unfolding is_past
returns-else-end-at c = rw (c.in-Endless.is, lt-leb _ _ c.if-end-at.false) refl
