-- `range_of` meets its contract: a sum past 2^64 is behind every recording. Assumes nothing.
use native.Mathlib.Omega.{arith}
use Rattle.places_rules.proofs.Ranges.{no_range, range_by}
use Rattle.payloads.proofs.payload.range_of.Goals as goal

pub returns-in_err-at : goal.returns-in_err-at
returns-in_err-at c =
    rw c.from_residual.ensures (no_range c.args.recording.now c.args.row (omega (arith, c.in_err-at.ensures)))

pub returns-in_err-end : goal.returns-in_err-end
returns-in_err-end c =
    rw c.from_residual-in_err-end.ensures
    (no_range c.args.recording.now c.args.row (omega (arith, c.in_err-end.ensures, c.in_ok-at.ensures)))

pub returns : goal.returns
returns c =
    rw (c.then_some.ensures, c.in_ok-end.ensures.1, c.in_ok-at.ensures.1) (range_by c.args.recording.now c.args.row)
