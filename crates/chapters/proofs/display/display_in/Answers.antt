-- `display_in` meets its contract: field by field. Assumes nothing.
use Rattle.chapters.specs.Records.{display_of}
use Rattle.locate_rules.proofs.Lists.{then}
use Rattle.chapters.proofs.display.display_in.Goals as goal

pub returns : goal.returns
unfolding display_of
returns c = search then depth 6
