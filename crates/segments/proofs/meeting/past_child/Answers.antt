-- `past_child`: by its ending, or by its size within the segment. Assumes nothing.
use mathlib.Core.Path.{sym, ◌∙◌}
use native.Mathlib.Omega.{arith}
use borrow.Author.Tests.{lt-ltb, le-ltb}
use Rattle.header.proofs.Inside.{header_there}
use Rattle.segments_rules.proofs.Pasts.{past_unknown, past_larger, past_within, past_endless}
use Rattle.segments.proofs.meeting.past_child.Goals as goal

pub returns-then-is_unknown : goal.returns-then-is_unknown
returns-then-is_unknown c =
    past_unknown _ _ _ (sym c.is_unknown.ensures ∙ c.if-is_unknown.true) _ _ c.end_of.ensures _ c.pass_over.ensures

pub overflow_add-next : goal.overflow_add-next
overflow_add-next c =
    let p = c.requires in
    let t = header_there _ _ _ p.there in
    omega (arith, t.inside, t.sized, p.small)

pub returns-then-end-next : goal.returns-then-end-next
returns-then-end-next c =
    rw c.in-Sized.is
    (past_larger _ _ _ (sym c.is_unknown.ensures ∙ c.if-is_unknown.false) _ (lt-ltb _ _ c.if-end-next.true))

pub returns-else-end-next : goal.returns-else-end-next
returns-else-end-next c =
    rw c.in-Sized.is
    (past_within _ _ _ (sym c.is_unknown.ensures ∙ c.if-is_unknown.false) _ (le-ltb _ _ c.if-end-next.false))

pub returns-in-Endless : goal.returns-in-Endless
returns-in-Endless c =
    rw c.in-Endless.is (past_endless _ _ _ (sym c.is_unknown.ensures ∙ c.if-is_unknown.false) _ _)
