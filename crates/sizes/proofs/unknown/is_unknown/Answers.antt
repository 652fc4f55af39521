-- `is_unknown` meets its contract: in live mode the size in the octets behind the id. Assumes nothing.
use Rattle.sizes.specs.Unknown.{unknown}
use Rattle.sizes.proofs.unknown.is_unknown.Goals as goal

pub returns-then-live : goal.returns-then-live
unfolding unknown
returns-then-live c =
    rw (c.if-live.true, c.all_ones.ensures, c.size_octets.ensures)
