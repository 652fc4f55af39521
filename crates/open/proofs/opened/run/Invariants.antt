-- `run`: one turn after another. Assumes nothing.
use Rattle.open_rules.specs.Tables.{lent, SameLent}
use Rattle.open_rules.specs.Contract.{left_of}
use Rattle.open_rules.proofs.Lending.{Running}
use Rattle.open.proofs.opened.run.Given as goal

abbrev pub invariant-loop-heads : goal.invariant-loop-heads
invariant-loop-heads l = record {
  same : SameLent l.tables l.initial.tables;
  running : Running l.live l.recording (lent l.initial.tables) (lent l.tables) l.stage l.known;
}

abbrev pub decreases-loop-heads : goal.decreases-loop-heads
decreases-loop-heads l = left_of l.live l.recording l.stage
