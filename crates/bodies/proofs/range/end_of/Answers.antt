-- `end_of` meets its contract: a sum past 2^64 is behind every recording. Assumes nothing.
use native.Mathlib.Omega.{arith}
use Rattle.bodies_rules.proofs.Ends.{no_end, end_told}
use Rattle.bodies.proofs.range.end_of.Goals as goal

pub returns-in_err-at : goal.returns-in_err-at
returns-in_err-at c =
    rw c.from_residual.ensures (no_end c.args.recording.now c.args.place.at c.args.size (omega (arith, c.in_err-at.ensures)))

pub returns : goal.returns
returns c =
    rw (c.then_some.ensures, c.in_ok-at.ensures.1)
    (end_told c.args.recording.now c.args.place.at c.args.size)
