-- `flag` meets its contract: it is by the number. Assumes nothing.
use Rattle.std.proofs.Common.{rules}
use Rattle.fields_rules.proofs.Taken.{flag_is}
use Rattle.fields.proofs.field.Fields.flag.Goals as goal

pub returns : goal.returns
returns c = flag_is _ _ _ _ c.number.result c.number.ensures (search rules)
