-- `edition_in` meets its contract: field by field. Assumes nothing.
use Rattle.chapters.specs.Records.{edition_of}
use Rattle.locate_rules.proofs.Lists.{then}
use Rattle.chapters.proofs.edition.edition_in.Goals as goal

pub returns : goal.returns
unfolding edition_of
returns c = search then depth 9
