-- `float_of_4` meets its contract: a NaN's pattern is told apart, any other is widened. Assumes nothing.
use Rattle.std.proofs.Common.{◌∙◌}
use lib.Ieee.{of_bits, div, binary32}
use Rattle.bodies_rules.proofs.Nans.{nan_pattern, no_nan, zero_by_zero}
use Rattle.number_bodies.proofs.float.float_of_4.Goals as goal

pub returns-then-bits-gt2139095040 : goal.returns-then-bits-gt2139095040
unfolding of_bits div
returns-then-bits-gt2139095040 c = zero_by_zero ∙ nan_pattern binary32 _ c.if-bits-gt2139095040.true

pub float_from_bits-bits : goal.float_from_bits-bits
float_from_bits-bits c = no_nan binary32 _ c.if-bits-gt2139095040.false
