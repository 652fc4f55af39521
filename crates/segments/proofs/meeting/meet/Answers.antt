-- `meet`: the segment's children in turn, to the first that is met. Assumes nothing.
use mathlib.Core.Path.{refl, sym, ap, ◌∙◌}
use Rattle.std.proofs.Common.{Ok}
use Rattle.booleans.proofs.Handed.{handed}
use borrow.Author.Tests.{eq-eqb, ne_eqb}
use Rattle.walks_rules.proofs.Steps.{stepped_on}
use Rattle.segments_rules.proofs.MetTurns.{turn_refused, turn_ended, turn_head, turn_part, turn_lost, turn_again}
use Rattle.segments_rules.proofs.MetTurns.{turn_less}
use Rattle.segments.proofs.meeting.meet.Goals as goal

pub loop-child-init : goal.loop-child-init
loop-child-init c = λ segment i. refl

pub returns-in_err-child : goal.returns-in_err-child
returns-in_err-child c =
    handed _ c.from_residual.ensures.1
    ∙ turn_refused _ _ _ _ _ _ _ c.stretch_of-stretch.ensures (c.loop-child.invariant _ c.stretch_of-stretch.ensures) _
    (sym c.child_at.ensures ∙ c.in_err-child.was)

pub returns : goal.returns
returns c =
    turn_ended _ _ _ _ _ _ _ c.stretch_of-stretch.ensures (c.loop-child.invariant _ c.stretch_of-stretch.ensures)
    (sym c.child_at.ensures ∙ c.in_ok-child.was ∙ ap Ok c.in_default.is)

pub returns-then-id-eq-SEEKHEAD : goal.returns-then-id-eq-SEEKHEAD
returns-then-id-eq-SEEKHEAD c =
    turn_head _ _ _ _ _ _ _ c.stretch_of-stretch.ensures (c.loop-child.invariant _ c.stretch_of-stretch.ensures) _
    (sym c.child_at.ensures ∙ c.in_ok-child.was ∙ ap Ok c.in-Some.is) (eq-eqb _ _ c.if-id-eq-SEEKHEAD.true)

pub returns-then-aims_at : goal.returns-then-aims_at
returns-then-aims_at c =
    turn_part _ _ _ _ _ _ _ c.stretch_of-stretch.ensures (c.loop-child.invariant _ c.stretch_of-stretch.ensures) _
    (sym c.child_at.ensures ∙ c.in_ok-child.was ∙ ap Ok c.in-Some.is) (ne_eqb _ _ c.if-id-eq-SEEKHEAD.false)
    (sym c.aims_at.ensures ∙ c.if-aims_at.true)

pub past_child-requires : goal.past_child-requires
past_child-requires c =
    let p = c.requires in
    let t = stepped_on _ _ _ _ _ (sym c.child_at.ensures ∙ c.in_ok-child.was ∙ ap Ok c.in-Some.is) in
    record { small = p.small; there = t.there }

pub returns-in_err-at : goal.returns-in_err-at
returns-in_err-at c =
    handed _ c.from_residual-in_err-at.ensures.1
    ∙ turn_lost _ _ _ _ _ _ _ c.stretch_of-stretch.ensures (c.loop-child.invariant _ c.stretch_of-stretch.ensures) _
    (sym c.child_at.ensures ∙ c.in_ok-child.was ∙ ap Ok c.in-Some.is) (ne_eqb _ _ c.if-id-eq-SEEKHEAD.false)
    (sym c.aims_at.ensures ∙ c.if-aims_at.false) _
    c.past_child.ensures _ c.in_err-at.was

pub loop-child-smaller : goal.loop-child-smaller
loop-child-smaller c =
    turn_less _ _ _ _ _ _ _ c.stretch_of-stretch.ensures (c.loop-child.invariant _ c.stretch_of-stretch.ensures) _
    (sym c.child_at.ensures ∙ c.in_ok-child.was ∙ ap Ok c.in-Some.is) _ c.past_child.ensures _ c.in_ok-at.was

pub loop-child-preserved : goal.loop-child-preserved
loop-child-preserved c =
    λ segment i.
    turn_again _ _ _ segment _ _ _ i (c.loop-child.invariant segment i) _ (sym c.child_at.ensures ∙ c.in_ok-child.was ∙ ap Ok c.in-Some.is)
    (ne_eqb _ _ c.if-id-eq-SEEKHEAD.false) (sym c.aims_at.ensures ∙ c.if-aims_at.false) _ c.past_child.ensures _
    c.in_ok-at.was
