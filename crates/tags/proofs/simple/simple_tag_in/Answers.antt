-- `simple_tag_in` meets its contract: field by field. Assumes nothing.
use Rattle.tags_rules.specs.Records.{simple_of}
use Rattle.locate_rules.proofs.Lists.{then}
use Rattle.tags.proofs.simple.simple_tag_in.Goals as goal

pub returns : goal.returns
unfolding simple_of
returns c = search then depth 8
