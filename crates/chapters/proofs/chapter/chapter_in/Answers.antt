-- `chapter_in` meets its contract: field by field. Assumes nothing.
use Rattle.chapters.specs.Records.{chapter_of}
use Rattle.locate_rules.proofs.Lists.{then}
use Rattle.chapters.proofs.chapter.chapter_in.Goals as goal

pub returns : goal.returns
unfolding chapter_of
returns c = search then depth 12
