-- `number` meets its contract: the last child of its id and kind decides. Assumes nothing.
use Rattle.fields_rules.proofs.Picked.{last_holds}
use Rattle.fields_rules.proofs.Taken.{number_unset, number_is}
use Rattle.fields.proofs.field.Fields.number.Goals as goal

pub returns-in_err-row : goal.returns-in_err-row
returns-in_err-row c =
    rw c.from_residual.ensures (number_unset _ _ _ _ c.last.ensures c.in_err-row.was)

pub uint_in-requires : goal.uint_in-requires
uint_in-requires c = last_holds c.args.self.now.readable _ _ c.last.ensures c.in_ok-row.was

pub returns : goal.returns
returns c = number_is _ _ _ _ c.last.ensures c.in_ok-row.was c.uint_in.ensures
