-- `sought`: the element at a sought address, with the sought id. Assumes nothing.
use mathlib.Core.Path.{refl, sym, ◌∙◌, ap}
use borrow.Author.Tests.{eq-eqb, ne_eqb}
use Rattle.std.proofs.Common.{Ok}
use Rattle.booleans.proofs.Handed.{handed}
use Rattle.seekchain_rules.specs.Heads.{sought}
use Rattle.seekchain.proofs.heads.sought.Goals as goal

pub returns-in_err-element : goal.returns-in_err-element
unfolding sought
returns-in_err-element c =
    handed _ c.from_residual.ensures.1 ∙ rw (sym c.child_at.ensures ∙ c.in_err-element.was) refl

pub returns-in_default : goal.returns-in_default
unfolding sought
returns-in_default c = rw (sym c.child_at.ensures ∙ c.in_ok-element.was ∙ ap Ok c.in_default.is) refl

pub returns-then-element-id : goal.returns-then-element-id
unfolding sought
returns-then-element-id c =
    rw (
      sym c.child_at.ensures ∙ c.in_ok-element.was ∙ ap Ok c.in-Some.is,
      ne_eqb _ _ c.if-element-id.true,
    )
    refl

pub returns : goal.returns
unfolding sought
returns c =
    rw (
      sym c.child_at.ensures ∙ c.in_ok-element.was ∙ ap Ok c.in-Some.is,
      eq-eqb _ _ c.if-element-id.false,
    )
    refl
