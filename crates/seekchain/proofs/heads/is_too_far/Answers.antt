-- `is_too_far`: whether the segment's start plus a position exceeds 2^64-1. Assumes nothing.
use native.Mathlib.Omega.{arith}
use Rattle.seekchain_rules.proofs.Positions.{too_far_law}
use Rattle.seekchain.proofs.heads.is_too_far.Goals as goal

pub returns : goal.returns
returns c =
    too_far_law c.args.start c.args.position (omega arith)
