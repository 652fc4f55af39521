-- `run`: one turn after another. Assumes nothing.
use mathlib.Core.Path.{ap, ◌∙◌}
use Rattle.std.proofs.Common.{Ok}
use Rattle.open_rules.proofs.Lending.{same_again, run_again}
use Rattle.open.proofs.opened.run.Goals as goal

pub loop-heads-preserved : goal.loop-heads-preserved
loop-heads-preserved c =
    record {
      same = same_again _ _ _ c.read_part.ensures.same c.loop-heads.invariant.same;
      running =
          run_again _ _ _ _ _ _ c.loop-heads.invariant.running _ c.turn.ensures _ _ _
          (c.in_ok-heads.was ∙ ap Ok c.in-Read.is) _ _ c.read_part.ensures.reads _ c.in_ok-rows-in-Read.was _
          c.set.ensures c.read_part.ensures.same.sizes;
    }
