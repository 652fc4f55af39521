-- `put`: one more byte stands behind those so far.
use mathlib.Core.Path.{sym, subst}
use Rattle.std.proofs.Common.{ℕ, List}
use Rattle.std.proofs.lemmas.List.{take_more}
use Rattle.lines.specs.Gathered.{Takes}
use Rattle.lines.proofs.Gathered.{takes_more}
use Rattle.lines.proofs.out.Out.put.Goals as goal

pub loop-byte-preserved : goal.loop-byte-preserved
loop-byte-preserved c = (
  subst (λ (bytes : List ℕ). Takes c.args.self.now bytes c.put_one.new.self)
      (sym (take_more c.args.bytes.now c.loop-byte.byte-index 0 c.loop-byte-test.true))
      (takes_more _ _ _ _ _ c.loop-byte.invariant.0 (c.put_one.ensures.gathers, c.put_one.ensures.kept)),
  λ failed. c.put_one.ensures.failed (c.loop-byte.invariant.1 failed),
)
