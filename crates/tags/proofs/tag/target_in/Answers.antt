-- `target_in` meets its contract: field by field. Assumes nothing.
use Rattle.tags_rules.specs.Records.{target_of}
use Rattle.locate_rules.proofs.Lists.{then}
use Rattle.tags.proofs.tag.target_in.Goals as goal

pub returns : goal.returns
unfolding target_of
returns c = search then depth 10
