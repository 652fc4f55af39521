-- `child_at` meets its contract: the end, header, an id that ends the stretch, 17. Assumes nothing.
use mathlib.Core.Path.{sym, ◌∙◌}
use Rattle.booleans.proofs.Handed.{handed}
use Rattle.walks_rules.proofs.Told.{child_past, child_unread, child_ended, child_unsized, child_is}
use Rattle.walks.proofs.step.child_at.Goals as goal

pub returns-then-is_past : goal.returns-then-is_past
returns-then-is_past c =
    child_past _ _ _ _ (sym c.is_past.ensures ∙ c.if-is_past.true)

pub returns-in_err-child : goal.returns-in_err-child
returns-in_err-child c =
    handed _ c.from_residual.ensures.1
    ∙ child_unread _ _ _ _ (sym c.is_past.ensures ∙ c.if-is_past.false) _ (sym c.header.ensures ∙ c.in_err-child.was)

pub returns-then-is_ended_by : goal.returns-then-is_ended_by
returns-then-is_ended_by c =
    child_ended _ _ _ _ (sym c.is_past.ensures ∙ c.if-is_past.false) _
    (sym c.header.ensures ∙ c.in_ok-child.was)
    (sym c.is_ended_by.ensures ∙ c.if-is_ended_by.true)

pub returns-then-is_barred : goal.returns-then-is_barred
returns-then-is_barred c =
    rw c.at.ensures
    (child_unsized _ _ _ _ (sym c.is_past.ensures ∙ c.if-is_past.false) _
    (sym c.header.ensures ∙ c.in_ok-child.was)
    (sym c.is_ended_by.ensures ∙ c.if-is_ended_by.false)
    (sym c.is_barred.ensures ∙ c.if-is_barred.true))

pub returns : goal.returns
returns c =
    child_is _ _ _ _ (sym c.is_past.ensures ∙ c.if-is_past.false) _
    (sym c.header.ensures ∙ c.in_ok-child.was)
    (sym c.is_ended_by.ensures ∙ c.if-is_ended_by.false)
    (sym c.is_barred.ensures ∙ c.if-is_barred.false)
