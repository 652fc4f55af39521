-- `float_of_8` meets its contract: a NaN's pattern is told apart. Assumes nothing.
use Rattle.std.proofs.Common.{◌∙◌}
use lib.Ieee.{of_bits, div, binary64}
use Rattle.bodies_rules.proofs.Nans.{nan_pattern, no_nan, zero_by_zero}
use Rattle.number_bodies.proofs.float.float_of_8.Goals as goal

pub returns-then-pattern-gt9218868437227405312 : goal.returns-then-pattern-gt9218868437227405312
unfolding of_bits div
returns-then-pattern-gt9218868437227405312 c = zero_by_zero ∙ nan_pattern binary64 _ c.if-pattern-gt9218868437227405312.true

pub float_from_bits-result : goal.float_from_bits-result
float_from_bits-result c = no_nan binary64 _ c.if-pattern-gt9218868437227405312.false
