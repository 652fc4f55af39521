-- `part_at`: the part by the latest position of its id. Assumes nothing.
use mathlib.Core.Path.{refl, sym, ◌∙◌}
use native.Mathlib.Omega.{arith}
use Rattle.booleans.proofs.Handed.{handed}
use Rattle.seekchain_rules.specs.Lookup.{part_at}
use Rattle.seekchain_rules.proofs.Positions.{near}
use Rattle.seekchain.proofs.lookup.part_at.Goals as goal

pub returns-in_default : goal.returns-in_default
unfolding part_at
returns-in_default c = λ heads l z. rw (c.in_default.is, l) refl

pub returns-then-is_too_far : goal.returns-then-is_too_far
unfolding part_at
returns-then-is_too_far c = λ heads l z.
    rw (c.in-Some.is, sym c.is_too_far.ensures ∙ c.if-is_too_far.true, z) refl

pub overflow_add-start : goal.overflow_add-start
overflow_add-start c =
    omega (arith, near c.args.start c.in-Some.position (sym c.is_too_far.ensures ∙ c.if-is_too_far.false))

pub returns-in_err-part : goal.returns-in_err-part
unfolding part_at
returns-in_err-part c = λ heads l z.
    handed _ c.from_residual.ensures.1
    ∙ rw (
      c.in-Some.is,
      sym c.is_too_far.ensures ∙ c.if-is_too_far.false,
      sym c.sought.ensures ∙ c.in_err-part.was,
    )
    refl

pub returns : goal.returns
unfolding part_at
returns c = λ heads l z.
    rw (
      c.in-Some.is,
      sym c.is_too_far.ensures ∙ c.if-is_too_far.false,
      sym c.sought.ensures ∙ c.in_ok-part.was,
      l,
    )
    refl
