-- `shown_text` meets its contract: the part that the range tells, or nothing. Assumes nothing.
use native.Mathlib.Omega.{arith}
use Rattle.shown_rules.proofs.Texts.{shown_inside, shown_is, shown_none}
use Rattle.shown.proofs.text.shown_text.Goals as goal

pub overflow_add-result : goal.overflow_add-result
overflow_add-result c =
    let i = shown_inside _ _ _ c.text_range.ensures c.in-Ok.is in
    omega (arith, i.ends, i.short)

pub slice_bounds-result-end : goal.slice_bounds-result-end
slice_bounds-result-end c =
    let i = shown_inside _ _ _ c.text_range.ensures c.in-Ok.is in
    omega (arith, i.ends)

pub returns-in-Err : goal.returns-in-Err
returns-in-Err c = search shown_none

pub returns-in-Ok : goal.returns-in-Ok
returns-in-Ok c = search shown_is
