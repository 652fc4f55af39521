-- `stretch_of` meets its contract. Assumes nothing.
use mathlib.Core.Path.{refl, sym, ◌∙◌}
use native.Mathlib.Omega.{arith}
use Rattle.header.proofs.Inside.{header_there}
use Rattle.segments_rules.specs.Segment.{stretch_of}
use Rattle.segments.proofs.walk.stretch_of.Goals as goal

pub returns-then-is_unknown : goal.returns-then-is_unknown
unfolding stretch_of
returns-then-is_unknown c = rw (sym c.is_unknown.ensures ∙ c.if-is_unknown.true) refl

pub overflow_add-result : goal.overflow_add-result
overflow_add-result c =
    let p = c.requires in
    let t = header_there _ _ _ p.there in
    omega (arith, t.inside, t.sized, p.small)

pub returns : goal.returns
unfolding stretch_of
returns c = rw (sym c.is_unknown.ensures ∙ c.if-is_unknown.false) refl
