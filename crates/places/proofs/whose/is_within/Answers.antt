-- `is_within` meets its contract: the difference is tested, since the sum may pass 2^64. Assumes nothing.
use mathlib.Core.Path.{◌∙◌}
use native.Mathlib.Omega.{arith}
use borrow.Author.Tests.{lt-leb}
use Rattle.places_rules.proofs.Spots.{before_span, by_difference}
use Rattle.places.proofs.whose.is_within.Goals as goal

pub returns-then-start-address : goal.returns-then-start-address
returns-then-start-address c = by_difference _ _ _ (omega arith)

pub returns-else-start-address : goal.returns-else-start-address
returns-else-start-address c =
    lt-leb c.args.start c.args.address (omega arith) ∙ before_span c.args.start c.args.size c.args.address (omega arith)
