-- `stage_label` meets its contract: the part is taken in two steps, so that no sum wraps. Assumes nothing.
use mathlib.Core.Path.{sym, ap, ◌∙◌}
use native.Mathlib.Omega.{arith}
use borrow.Author.Tests.{eqb-true, eqb-false}
use Rattle.shown_rules.specs.Shown.{shown}
use Rattle.labels.proofs.Stages.{label_unset, label_outside, label_empty, label_is, two_steps}
use Rattle.labels.proofs.label.stage_label.Goals as goal

pub returns-in_default : goal.returns-in_default
returns-in_default c = label_unset _ _ c.in_default.is

pub returns-in_default-get : goal.returns-in_default-get
returns-in_default-get c = label_outside _ _ c.in-Some.is (grind (arith, c.in_default-get.ensures.lookup))

pub returns-in_default-get-2 : goal.returns-in_default-get-2
returns-in_default-get-2 c =
    let rest = c.in-Some-get.ensures.lookup in
    label_outside _ _ c.in-Some.is (grind (arith, rest, c.in_default-get-2.ensures.lookup))

pub returns-then-is_empty : goal.returns-then-is_empty
returns-then-is_empty c =
    let rest = c.in-Some-get.ensures.lookup in
    let part = c.in-Some-get-2.ensures.lookup in
    let is = two_steps c.args.recording.now c.in-Some.range.at _ _ _ rest.0.2 part.0.2 in
    label_empty _ _ c.in-Some.is (omega (arith, rest, part)) (c.shown_part-text.ensures ∙ ap shown is)
    (eqb-true _ 0 (sym c.if-is_empty.ensures))

pub returns-else-is_empty : goal.returns-else-is_empty
returns-else-is_empty c =
    let rest = c.in-Some-get.ensures.lookup in
    let part = c.in-Some-get-2.ensures.lookup in
    let is = two_steps c.args.recording.now c.in-Some.range.at _ _ _ rest.0.2 part.0.2 in
    label_is _ _ c.in-Some.is (omega (arith, rest, part)) (c.shown_part-text.ensures ∙ ap shown is)
    (eqb-false _ 0 (sym c.if-is_empty.ensures))
