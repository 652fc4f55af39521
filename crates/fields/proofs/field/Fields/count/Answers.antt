-- `count` meets its contract. Assumes nothing.
use mathlib.Core.Path.{ap}
use Rattle.fields_rules.specs.Values.{count}
use Rattle.fields_rules.specs.Fields.{count_of}
use Rattle.fields.proofs.field.Fields.count.Goals as goal

pub returns : goal.returns
unfolding count_of
returns c = ap count c.count_children.ensures
