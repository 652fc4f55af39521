-- `visit_child`: the two tests of a child's id. Assumes nothing.
use mathlib.Core.Path.{refl}
use borrow.Author.Tests.{eq-eqb, ne_eqb}
use Rattle.segments_rules.specs.Segment.{visit}
use Rattle.segments.proofs.walk.visit_child.Goals as goal

pub returns-then-id-eq-SEEKHEAD : goal.returns-then-id-eq-SEEKHEAD
unfolding visit
returns-then-id-eq-SEEKHEAD c = rw (eq-eqb _ _ c.if-id-eq-SEEKHEAD.true, c.by_heads.ensures) refl

pub returns-then-id-wanted : goal.returns-then-id-wanted
unfolding visit
returns-then-id-wanted c = rw (ne_eqb _ _ c.if-id-eq-SEEKHEAD.false, eq-eqb _ _ c.if-id-wanted.true) refl

pub returns : goal.returns
unfolding visit
returns c = rw (ne_eqb _ _ c.if-id-eq-SEEKHEAD.false, ne_eqb _ _ c.if-id-wanted.false) refl
