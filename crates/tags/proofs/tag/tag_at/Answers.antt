-- `tag_at` meets its contract: the master is found, and its fields are told. Assumes nothing.
use Rattle.locate_rules.proofs.Told.{stands_at, told_found}
use Rattle.tags.proofs.tag.tag_at.Goals as goal

pub tag_in-requires : goal.tag_in-requires
tag_in-requires c = stands_at c.locate.ensures c.in_ok-master.was

pub returns : goal.returns
returns c = told_found c.locate.ensures c.in_ok-master.was c.tag_in.ensures
