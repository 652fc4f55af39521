-- `first_string` meets its contract: no display before this one has a set string. Assumes nothing.
use mathlib.Core.Path.{ap, ◌∙◌}
use mathlib.Core.Logic.{inl}
use native.Mathlib.Omega.{arith}
use Rattle.std.specs.declared.iter.Enumerate.{Enumerate}
use borrow.Author.Tests.{tests}
use Rattle.children.specs.declared.child.Children.{Children}
use Rattle.children.specs.Left.{left}
use Rattle.chapters.proofs.Displays.{at_first, at_end, is_row, found, goes_on}
use Rattle.chapters.proofs.first.first_string.Goals as goal

pub loop-display-init : goal.loop-display-init
loop-display-init c =
    let e = c.into_iter-display-iterator.ensures.into_iter_gives in
    let source = ap (λ (x : Enumerate Children). x.iter) e ∙ c.enumerate-display-items.ensures.source in
    let start = ap (λ (x : Enumerate Children). x.count) e ∙ c.enumerate-display-items.ensures.count in
    let a = at_first c.requires start (ap left source ∙ c.of-displays.ensures) in
    ((tt, tt, inl (omega (arith, a.few, c.ranges.rows.fits))), tt, a)

pub string_of-requires : goal.string_of-requires
string_of-requires c = (c.requires.filled, is_row c.loop-display.invariant.2 c.in-Some.ensures.steps.0)

pub returns-in-Some-string_of : goal.returns-in-Some-string_of
returns-in-Some-string_of c =
    found c.loop-display.invariant.2 c.in-Some.ensures.steps.0 c.string_of.ensures c.in-Some-string_of.is
    c.in-Some.ensures.steps.1

pub loop-display-preserved : goal.loop-display-preserved
loop-display-preserved c =
    let s = c.in-Some.ensures.steps in
    let a = goes_on c.loop-display.invariant.2 s.0 c.string_of.ensures (search tests) s.2 in
    ((tt, tt, inl (omega (arith, a.few, c.ranges.rows.fits))), tt, a)

pub returns : goal.returns
returns c = at_end c.loop-display.invariant.2 c.in-None.ensures.steps.0.0
