-- `next_sought`: the parts in their order, to the next that an entry names. Assumes nothing.
use mathlib.Core.Path.{refl}
use Rattle.booleans.proofs.Handed.{handed}
use Rattle.open_rules.proofs.Going.{seek_over, seek_stopped, seek_on, seek_found, first_left, none_left}
use Rattle.opening.proofs.turns.next_sought.Goals as goal

pub returns-in_err-place : goal.returns-in_err-place
returns-in_err-place c =
    seek_stopped _ _ _ _ _ c.loop-left.invariant _ _ (first_left _ c.in-len1-up.len_at_least) _ c.id.ensures _
    c.link-link.ensures _ c.part_at.ensures _ c.in_err-place.was _ (handed _ c.from_residual.ensures.1)

pub returns-in-Some : goal.returns-in-Some
returns-in-Some c =
    seek_found _ _ _ _ _ c.loop-left.invariant _ _ (first_left _ c.in-len1-up.len_at_least) _ c.id.ensures _
    c.link-link.ensures _ c.part_at.ensures _ _ c.in_ok-place.was _ c.in-Some.is _ refl

pub loop-left-preserved : goal.loop-left-preserved
loop-left-preserved c =
    seek_on _ _ _ _ _ c.loop-left.invariant _ _ (first_left _ c.in-len1-up.len_at_least) _ c.id.ensures _
    c.link-link.ensures _ c.part_at.ensures _ _ c.in_ok-place.was c.in_default-place.is

pub returns : goal.returns
returns c =
    seek_over _ _ _ _ _ c.loop-left.invariant (none_left _ c.in_default.len_below)
