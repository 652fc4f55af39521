-- `begin`: 14, then the segment. Assumes nothing.
use mathlib.Core.Path.{refl, sym, ◌∙◌}
use Rattle.booleans.proofs.Handed.{handed}
use Rattle.open_rules.proofs.Beginning.{small, begin_bad, begin_stopped, begin_at}
use Rattle.opening.proofs.start.begin.Goals as goal

pub returns-then-not-are_allowed : goal.returns-then-not-are_allowed
returns-then-not-are_allowed c =
    begin_bad _ _ _ _ _ (sym c.are_allowed.ensures ∙ c.if-not-are_allowed.true) refl refl

pub segment_of-requires : goal.segment_of-requires
segment_of-requires c =
    small _ _ (sym c.are_allowed.ensures ∙ c.if-not-are_allowed.false)

pub returns-in_err-segment : goal.returns-in_err-segment
returns-in_err-segment c =
    begin_stopped _ _ _ _ (sym c.are_allowed.ensures ∙ c.if-not-are_allowed.false) _
    (sym c.segment_of.ensures ∙ c.in_err-segment.was) (handed _ c.from_residual.ensures.1)

pub returns : goal.returns
returns c =
    begin_at _ _ _ _ (sym c.are_allowed.ensures ∙ c.if-not-are_allowed.false) _
    (sym c.segment_of.ensures ∙ c.in_ok-segment.was) refl
