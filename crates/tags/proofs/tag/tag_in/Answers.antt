-- `tag_in` meets its contract. Assumes nothing.
use Rattle.locate_rules.proofs.Ways.{within}
use Rattle.tags_rules.proofs.Tags.{tag_is}
use Rattle.tags.proofs.tag.tag_in.Goals as goal

pub count_children-requires : goal.count_children-requires
count_children-requires c = search within

pub returns : goal.returns
returns c = search tag_is
