-- `segment_of`: the file's elements in turn, up to the segment. Assumes nothing.
use mathlib.Core.Path.{refl, sym, ap, ◌∙◌}
use borrow.Author.Tests.{eq-eqb, ne_eqb}
use Rattle.std.proofs.Common.{Ok}
use Rattle.booleans.proofs.Handed.{handed}
use Rattle.walks_rules.specs.declared.step.Stretch.TheVariants.{Sized}
use Rattle.walks_rules.proofs.Steps.{stepped_on, less_room}
use Rattle.walks_rules.proofs.Endings.{pass_onward}
use Rattle.segments_rules.specs.Segment.{segment_of}
use Rattle.segments_rules.proofs.Walks.{segment_unfolds}
use Rattle.segments.proofs.segment.segment_of.Goals as goal

pub loop-element-init : goal.loop-element-init
unfolding segment_of
loop-element-init c = refl

pub returns-in_err-element : goal.returns-in_err-element
returns-in_err-element c =
    handed _ c.from_residual.ensures.1
    ∙ rw (c.loop-element.invariant, segment_unfolds, sym c.child_at.ensures ∙ c.in_err-element.was) refl

pub returns : goal.returns
returns c =
    rw (c.loop-element.invariant, segment_unfolds, sym c.child_at.ensures ∙ c.in_ok-element.was ∙ ap Ok c.in_default.is)
    refl

pub returns-then-element-eq-SEGMENT : goal.returns-then-element-eq-SEGMENT
returns-then-element-eq-SEGMENT c =
    rw (
      c.loop-element.invariant,
      segment_unfolds,
      sym c.child_at.ensures ∙ c.in_ok-element.was ∙ ap Ok c.in-Some.is,
      eq-eqb _ _ c.if-element-eq-SEGMENT.true,
    )
    refl

pub pass_over-requires : goal.pass_over-requires
pass_over-requires c =
    let t = stepped_on _ _ _ _ _ (sym c.child_at.ensures ∙ c.in_ok-element.was ∙ ap Ok c.in-Some.is) in
    record { small = c.requires; there = t.there }

pub returns-in_err-at : goal.returns-in_err-at
returns-in_err-at c =
    handed _ c.from_residual-in_err-at.ensures.1
    ∙ rw (
      c.loop-element.invariant,
      segment_unfolds,
      sym c.child_at.ensures ∙ c.in_ok-element.was ∙ ap Ok c.in-Some.is,
      ne_eqb _ _ c.if-element-eq-SEGMENT.false,
      sym c.pass_over.ensures ∙ c.in_err-at.was,
    )
    refl

pub loop-element-smaller : goal.loop-element-smaller
loop-element-smaller c =
    let t = stepped_on _ _ _ _ _ (sym c.child_at.ensures ∙ c.in_ok-element.was ∙ ap Ok c.in-Some.is) in
    less_room c.args.recording.now (Sized _) _ _ t.room
    (pass_onward _ _ (Sized _) _ _ _ t (sym c.pass_over.ensures ∙ c.in_ok-at.was))

pub loop-element-preserved : goal.loop-element-preserved
loop-element-preserved c =
    c.loop-element.invariant ∙ segment_unfolds _ _ _
    ∙ rw (
      sym c.child_at.ensures ∙ c.in_ok-element.was ∙ ap Ok c.in-Some.is,
      ne_eqb _ _ c.if-element-eq-SEGMENT.false,
      sym c.pass_over.ensures ∙ c.in_ok-at.was,
    )
    refl
