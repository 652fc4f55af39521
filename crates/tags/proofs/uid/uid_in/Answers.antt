-- `uid_in` meets its contract: the member of the list, if there is one. Assumes nothing.
use Rattle.fields_rules.proofs.Picked.{nth_holds}
use Rattle.tags_rules.proofs.Tags.{member_unset, member_is}
use Rattle.tags.proofs.uid.uid_in.Goals as goal

pub returns-in_err-row : goal.returns-in_err-row
returns-in_err-row c =
    rw c.from_residual.ensures
    (member_unset _ _ _ _ _ c.member_id.ensures c.nth_child.ensures c.in_err-row.was)

pub uint_in-requires : goal.uint_in-requires
uint_in-requires c = nth_holds c.args.targets.now.readable _ _ _ c.nth_child.ensures c.in_ok-row.was

pub returns : goal.returns
returns c = member_is _ _ _ _ _ c.member_id.ensures c.nth_child.ensures c.in_ok-row.was c.uint_in.ensures
