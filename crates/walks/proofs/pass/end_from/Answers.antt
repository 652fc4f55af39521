-- `end_from` meets its contract: a loop over the headers to the end. Assumes nothing.
use mathlib.Core.Path.{ap, sym, ◌∙◌}
use Rattle.std.proofs.Common.{Ok}
use Rattle.booleans.proofs.Handed.{handed}
use Rattle.walks_rules.proofs.Steps.{stepped_on}
use Rattle.walks_rules.proofs.Told.{end_refused, end_there, end_further, end_less}
use Rattle.walks.proofs.pass.end_from.Goals as goal

pub returns-in_err-child : goal.returns-in_err-child
returns-in_err-child c =
    handed _ c.from_residual.ensures.1 ∙ end_refused _ _ _ _ _ (sym c.child_at.ensures ∙ c.in_err-child.was)
    ∙ c.loop-child.invariant

pub returns : goal.returns
returns c =
    end_there _ _ _ _ _ (sym c.child_at.ensures ∙ c.in_ok-child.was ∙ ap Ok c.in_default.is) c.ended_at.ensures
    ∙ c.loop-child.invariant

pub within-at-requires : goal.within-at-requires
within-at-requires c =
    let t = stepped_on _ _ _ _ _ (sym c.child_at.ensures ∙ c.in_ok-child.was ∙ ap Ok c.in-Some.is) in
    record { small = c.requires; there = t.there }

pub loop-child-smaller : goal.loop-child-smaller
loop-child-smaller c =
    end_less _ _ _ _ _ _ (sym c.child_at.ensures ∙ c.in_ok-child.was ∙ ap Ok c.in-Some.is) c.within-at.ensures

pub loop-child-preserved : goal.loop-child-preserved
loop-child-preserved c =
    end_further _ _ _ _ _ _ (sym c.child_at.ensures ∙ c.in_ok-child.was ∙ ap Ok c.in-Some.is) c.within-at.ensures
    ∙ c.loop-child.invariant
