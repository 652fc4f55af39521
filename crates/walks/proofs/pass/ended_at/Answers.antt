-- `ended_at` meets its contract. Assumes nothing.
use mathlib.Core.Path.{refl}
use borrow.Author.Tests.{le-leb, lt-leb}
use Rattle.walks_rules.specs.Endings.{ended_at}
use Rattle.walks.proofs.pass.ended_at.Goals as goal

pub returns-then-end-at : goal.returns-then-end-at
unfolding ended_at
returns-then-end-at c = rw (le-leb _ _ c.if-end-at.true) refl

pub returns-then-length-at : goal.returns-then-length-at
unfolding ended_at
returns-then-length-at c = rw (lt-leb _ _ c.if-end-at.false, le-leb _ _ c.if-length-at.true) refl

pub returns : goal.returns
unfolding ended_at
returns c = rw (lt-leb _ _ c.if-end-at.false, lt-leb _ _ c.if-length-at.false) refl
