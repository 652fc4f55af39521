-- `info_in` meets its contract: field by field. Assumes nothing.
use Rattle.info_rules.specs.Records.{info_of}
use Rattle.locate_rules.proofs.Lists.{then}
use Rattle.info.proofs.info.info_in.Goals as goal

pub returns : goal.returns
unfolding info_of
returns c = search then depth 14
