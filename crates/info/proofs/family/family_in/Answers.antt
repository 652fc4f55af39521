-- `family_in` meets its contract: the family, if there is one. Assumes nothing.
use Rattle.fields_rules.proofs.Picked.{nth_fits}
use Rattle.info_rules.proofs.Families.{family_unset, family_is}
use Rattle.info.proofs.family.family_in.Goals as goal

pub returns-in_err-row : goal.returns-in_err-row
returns-in_err-row c =
    rw c.from_residual.ensures (family_unset _ _ _ c.nth_child.ensures c.in_err-row.was)

pub range_of-requires : goal.range_of-requires
range_of-requires c = nth_fits c.args.fields.now.readable _ _ _ c.nth_child.ensures c.in_ok-row.was

pub returns : goal.returns
returns c = family_is _ _ _ c.nth_child.ensures c.in_ok-row.was c.range_of.ensures
