-- `real` meets its contract: the last child of its id and kind decides. Assumes nothing.
use Rattle.fields_rules.proofs.Picked.{last_holds}
use Rattle.fields_rules.proofs.Taken.{real_unset, real_is}
use Rattle.fields.proofs.field.Fields.real.Goals as goal

pub returns-in_err-row : goal.returns-in_err-row
returns-in_err-row c =
    rw c.from_residual.ensures (real_unset _ _ _ _ c.last.ensures c.in_err-row.was)

pub float_in-requires : goal.float_in-requires
float_in-requires c = last_holds c.args.self.now.readable _ _ c.last.ensures c.in_ok-row.was

pub returns : goal.returns
returns c = real_is _ _ _ _ c.last.ensures c.in_ok-row.was c.float_in.ensures
