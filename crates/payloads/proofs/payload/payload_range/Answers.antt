-- `payload_range` meets its contract: the limits, one after another, and then the range. Assumes nothing.
use mathlib.Core.Path.{sym, ◌∙◌}
use native.Mathlib.Omega.{arith}
use Rattle.places_rules.proofs.Ranges.{not_allowed, no_row, range_told_of}
use Rattle.payloads.proofs.payload.payload_range.Goals as goal

pub returns-then-not-is_allowed : goal.returns-then-not-is_allowed
returns-then-not-is_allowed c =
    rw c.at.ensures (not_allowed _ _ _ (sym c.is_allowed.ensures ∙ c.if-not-is_allowed.true))

pub returns-then-rows-row : goal.returns-then-rows-row
returns-then-rows-row c =
    let a = sym c.is_allowed.ensures ∙ c.if-not-is_allowed.false in
    rw c.at-then-rows-row.ensures (no_row _ _ _ a (omega arith))

pub returns : goal.returns
returns c =
    let a = sym c.is_allowed.ensures ∙ c.if-not-is_allowed.false in
    range_told_of _ _ _ a c.if-rows-row.false c.row_at-found.result c.row_at-found.ensures _ _
    c.range_of.ensures (rw c.at-2.ensures at c.ok_or.ensures.value)
