-- `gathered`: the elements of a payload, one after another. Assumes nothing.
use mathlib.Core.Path.{refl, sym, ap, ◌∙◌}
use native.Mathlib.Omega.{arith}
use Rattle.booleans.proofs.Handed.{handed}
use Rattle.elements_rules.specs.Reading.{element_header_read}
use Rattle.elements_rules.proofs.Parts.{step_read}
use Rattle.header.proofs.Inside.{header_there}
use Rattle.seekhead_rules.proofs.Levels.{pass_holds, pass_ends, pass_unread, pass_refused, pass_overruns}
use Rattle.seekhead_rules.proofs.Levels.{pass_again}
use Rattle.seekhead_rules.proofs.Members.{level_law}
use Rattle.seekhead.proofs.level.gathered.Goals as goal

pub overflow_add-end : goal.overflow_add-end
overflow_add-end g c =
    let p = c.requires in
    let t = header_there _ _ _ p.there in
    omega (arith, t.inside, t.sized, p.small)

pub loop-at-init : goal.loop-at-init
loop-at-init g c = pass_holds _ _ _ (level_law g.G.Gather.depth g.G.Gather.parent g.G.Gather.make g.G.Gather.laws _) _ _ _

pub returns-in_err-child : goal.returns-in_err-child
returns-in_err-child g c =
    handed _ c.from_residual.ensures.1
    ∙ pass_unread _ _ _ _ _ _ _ _ _ c.loop-at.invariant _ refl c.loop-at-test.true _
    (sym c.element_header.ensures ∙ c.in_err-child.was)

pub with-requires : goal.with-requires
with-requires g c =
    let p = c.requires in
    let q = (sym c.element_header.ensures ∙ c.in_ok-child.was) in
    let t = header_there _ _ _ (step_read _ _ _ _ q).1 in
    record { small = p.small; there = ap (element_header_read _ _) t.begins ∙ q }

pub returns-in_err-value : goal.returns-in_err-value
returns-in_err-value g c =
    handed _ c.from_residual-in_err-value.ensures.1
    ∙ pass_refused _ _ _ _ _ _ _ _ _ c.loop-at.invariant _ refl c.loop-at-test.true _
    (sym c.element_header.ensures ∙ c.in_ok-child.was) _ (sym c.in_err-value.was ∙ c.with.ensures)

pub overflow_add-next : goal.overflow_add-next
overflow_add-next g c =
    let p = c.requires in
    let t = header_there _ _ _
    (step_read _ _ _ _ (sym c.element_header.ensures ∙ c.in_ok-child.was)).1 in
    omega (arith, t.inside, t.sized, p.small)

pub returns-then-end-next : goal.returns-then-end-next
returns-then-end-next g c =
    rw c.at.ensures
    (pass_overruns _ _ _ _ _ _ _ _ _ c.loop-at.invariant _ refl c.loop-at-test.true _
    (sym c.element_header.ensures ∙ c.in_ok-child.was) _
    (sym c.in_ok-value.was ∙ c.with.ensures) c.if-end-next.true)

pub loop-at-smaller : goal.loop-at-smaller
loop-at-smaller g c =
    let t = header_there _ _ _
    (step_read _ _ _ _ (sym c.element_header.ensures ∙ c.in_ok-child.was)).1 in
    omega (arith, t.some, t.behind, c.if-end-next.false, c.loop-at-test.true)

pub loop-at-preserved : goal.loop-at-preserved
loop-at-preserved g c =
    pass_again _ _ _ _ _ _ _ _ _ c.loop-at.invariant _ refl c.loop-at-test.true _
    (sym c.element_header.ensures ∙ c.in_ok-child.was) _
    (sym c.in_ok-value.was ∙ c.with.ensures) (omega (arith, c.if-end-next.false))

pub returns : goal.returns
returns g c =
    pass_ends _ _ _ _ _ _ _ _ _ c.loop-at.invariant _ refl (omega (arith, c.loop-at-test.false))
