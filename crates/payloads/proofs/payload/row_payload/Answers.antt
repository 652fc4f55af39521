-- `row_payload` meets its contract: the part that the range tells, or nothing. Assumes nothing.
use native.Mathlib.Omega.{arith}
use Rattle.places_rules.proofs.Ranges.{range_inside, part_is, part_none}
use Rattle.payloads.proofs.payload.row_payload.Goals as goal

pub overflow_add-end : goal.overflow_add-end
overflow_add-end c =
    let i = range_inside _ _ _ _ (rw c.in-Ok.is at c.payload_range.ensures) in
    omega (arith, i.ends, i.short)

pub slice_bounds-result-end-in-Ok : goal.slice_bounds-result-end-in-Ok
slice_bounds-result-end-in-Ok c =
    let i = range_inside _ _ _ _ (rw c.in-Ok.is at c.payload_range.ensures) in
    omega (arith, i.ends)

pub returns-in-Err : goal.returns-in-Err
returns-in-Err c =
    part_none _ _ _ _ (rw c.in-Err.is at c.payload_range.ensures)

pub returns-in-Ok : goal.returns-in-Ok
returns-in-Ok c =
    part_is _ _ _ _ (rw c.in-Ok.is at c.payload_range.ensures)
