-- `simple_tag_at` meets its contract: the master is found, and its fields are told. Assumes nothing.
use Rattle.tags_rules.specs.Records.{simple_of}
use Rattle.locate_rules.proofs.Told.{readable_at, told_below}
use Rattle.tags.proofs.simple.simple_tag_at.Goals as goal

pub invariant_of-fields : goal.invariant_of-fields
invariant_of-fields c = record { readable = readable_at c.locate.ensures c.in_ok-master.was }

pub returns : goal.returns
returns c = told_below simple_of c.locate.ensures c.in_ok-master.was c.simple_tag_in.ensures
