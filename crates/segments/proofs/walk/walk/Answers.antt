-- `walk`: the segment's children in turn. Assumes nothing.
use mathlib.Core.Path.{refl, sym, ap, ◌∙◌}
use Rattle.std.proofs.Common.{Ok}
use Rattle.booleans.proofs.Handed.{handed}
use Rattle.walks_rules.proofs.Steps.{stepped_on}
use Rattle.segments_rules.specs.Segment.{segment_children}
use Rattle.segments_rules.proofs.Turns.{turn_refused, turn_ended, turn_ends, turn_overruns, turn_lost, turn_again}
use Rattle.segments_rules.proofs.Turns.{turn_less}
use Rattle.segments.proofs.walk.walk.Goals as goal

pub loop-child-init : goal.loop-child-init
unfolding segment_children
loop-child-init c = refl

pub returns-in_err-child : goal.returns-in_err-child
returns-in_err-child c =
    handed _ c.from_residual.ensures.1
    ∙ turn_refused _ _ _ _ _ _ _ c.stretch_of-stretch.ensures c.end_of-end.ensures c.loop-child.invariant _
    (sym c.child_at.ensures ∙ c.in_err-child.was)

pub returns : goal.returns
returns c =
    turn_ended _ _ _ _ _ _ _ c.stretch_of-stretch.ensures c.end_of-end.ensures c.loop-child.invariant
    (sym c.child_at.ensures ∙ c.in_ok-child.was ∙ ap Ok c.in_default.is)

pub visit_child-requires : goal.visit_child-requires
visit_child-requires c =
    let p = c.requires in
    let t = stepped_on _ _ _ _ _ (sym c.child_at.ensures ∙ c.in_ok-child.was ∙ ap Ok c.in-Some.is) in
    record { small = p.small; there = t.there }

pub returns-in-Some-visit_child : goal.returns-in-Some-visit_child
returns-in-Some-visit_child c =
    turn_ends _ _ _ _ _ _ _ c.stretch_of-stretch.ensures c.end_of-end.ensures c.loop-child.invariant _
    (sym c.child_at.ensures ∙ c.in_ok-child.was ∙ ap Ok c.in-Some.is) _
    (sym c.in-Some-visit_child.is ∙ c.visit_child.ensures)

pub overruns-requires : goal.overruns-requires
overruns-requires c =
    let p = c.requires in
    let t = stepped_on _ _ _ _ _ (sym c.child_at.ensures ∙ c.in_ok-child.was ∙ ap Ok c.in-Some.is) in
    record { readable = p; readable_2 = record { small = p.small; there = t.there } }

pub returns-then-overruns : goal.returns-then-overruns
returns-then-overruns c =
    turn_overruns _ _ _ _ _ _ _ c.stretch_of-stretch.ensures c.end_of-end.ensures c.loop-child.invariant _
    (sym c.child_at.ensures ∙ c.in_ok-child.was ∙ ap Ok c.in-Some.is)
    (sym c.in_default-visit_child.is ∙ c.visit_child.ensures)
    (sym c.overruns.ensures ∙ c.if-overruns.true)

pub pass_over-requires : goal.pass_over-requires
pass_over-requires c =
    let p = c.requires in
    let t = stepped_on _ _ _ _ _ (sym c.child_at.ensures ∙ c.in_ok-child.was ∙ ap Ok c.in-Some.is) in
    record { small = p.small; there = t.there }

pub returns-in_err-at : goal.returns-in_err-at
returns-in_err-at c =
    handed _ c.from_residual-in_err-at.ensures.1
    ∙ turn_lost _ _ _ _ _ _ _ c.stretch_of-stretch.ensures c.end_of-end.ensures c.loop-child.invariant _
    (sym c.child_at.ensures ∙ c.in_ok-child.was ∙ ap Ok c.in-Some.is)
    (sym c.in_default-visit_child.is ∙ c.visit_child.ensures)
    (sym c.overruns.ensures ∙ c.if-overruns.false) _ (sym c.pass_over.ensures ∙ c.in_err-at.was)

pub loop-child-smaller : goal.loop-child-smaller
loop-child-smaller c =
    turn_less _ _ _ _ _ _ _ c.stretch_of-stretch.ensures c.end_of-end.ensures c.loop-child.invariant _
    (sym c.child_at.ensures ∙ c.in_ok-child.was ∙ ap Ok c.in-Some.is) _
    (sym c.pass_over.ensures ∙ c.in_ok-at.was)

pub loop-child-preserved : goal.loop-child-preserved
loop-child-preserved c =
    turn_again _ _ _ _ _ _ _ c.stretch_of-stretch.ensures c.end_of-end.ensures c.loop-child.invariant _
    (sym c.child_at.ensures ∙ c.in_ok-child.was ∙ ap Ok c.in-Some.is)
    (sym c.in_default-visit_child.is ∙ c.visit_child.ensures)
    (sym c.overruns.ensures ∙ c.if-overruns.false) _ (sym c.pass_over.ensures ∙ c.in_ok-at.was)
