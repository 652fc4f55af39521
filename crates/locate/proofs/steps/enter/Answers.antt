-- `enter` meets its contract: one step on, among the rows below the master. Assumes nothing.
use native.Mathlib.Omega.{arith}
use Rattle.locate_rules.proofs.Ways.{nth_numbered, last_numbered, nth_step, last_step}
use Rattle.locate.proofs.steps.enter.Goals as goal

pub spot_of-requires : goal.spot_of-requires
spot_of-requires c = search (nth_numbered, arith)

pub spot_of-requires-in-Last : goal.spot_of-requires-in-Last
spot_of-requires-in-Last c = search (last_numbered, arith)

pub returns-in-Nth : goal.returns-in-Nth
returns-in-Nth c = search nth_step

pub returns-in-Last : goal.returns-in-Last
returns-in-Last c = search last_step
