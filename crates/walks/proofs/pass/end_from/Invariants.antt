-- `end_from` meets its contract: a loop over the headers to the end. Assumes nothing.
use Prim.Native.Nat.{◌-◌}
use mathlib.Core.Path.{◌≡◌}
use lib.ListN.{length}
use Rattle.walks_rules.specs.Endings.{end_from}
use Rattle.walks.proofs.pass.end_from.Given as goal

abbrev pub invariant-loop-child : goal.invariant-loop-child
invariant-loop-child l = end_from l.recording l.id l.end l.at ≡ end_from l.recording l.id l.end l.from

abbrev pub decreases-loop-child : goal.decreases-loop-child
decreases-loop-child l = length l.recording - l.at
