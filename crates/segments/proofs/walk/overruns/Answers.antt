-- `overruns` meets its contract. Assumes nothing.
use mathlib.Core.Path.{refl, sym, ◌∙◌}
use native.Mathlib.Omega.{arith}
use Rattle.header.proofs.Inside.{header_there}
use Rattle.segments_rules.specs.Segment.{overruns}
use Rattle.segments.proofs.walk.overruns.Goals as goal

pub returns-then-is_unknown : goal.returns-then-is_unknown
unfolding overruns
returns-then-is_unknown c = rw (sym c.is_unknown.ensures ∙ c.if-is_unknown.true) refl

pub returns-then-is_unknown-2 : goal.returns-then-is_unknown-2
unfolding overruns
returns-then-is_unknown-2 c =
    rw (
      sym c.is_unknown.ensures ∙ c.if-is_unknown.false,
      sym c.is_unknown-2.ensures ∙ c.if-is_unknown-2.true,
    )
    refl

pub overflow_add-result : goal.overflow_add-result
overflow_add-result c =
    let p = c.requires in
    let t = header_there _ _ _ p.readable.there in
    omega (arith, t.inside, t.sized, p.readable.small)

pub overflow_add-result-2 : goal.overflow_add-result-2
overflow_add-result-2 c =
    let p = c.requires in
    let t = header_there _ _ _ p.readable_2.there in
    omega (arith, t.inside, t.sized, p.readable_2.small)

pub returns : goal.returns
unfolding overruns
returns c =
    rw (
      sym c.is_unknown.ensures ∙ c.if-is_unknown.false,
      sym c.is_unknown-2.ensures ∙ c.if-is_unknown-2.false,
    )
    refl
