-- `content` meets its contract: the last child of its id and kind decides. Assumes nothing.
use Rattle.fields_rules.proofs.Picked.{last_fits}
use Rattle.fields_rules.proofs.Taken.{content_unset, content_at}
use Rattle.fields.proofs.field.Fields.content.Goals as goal

pub returns-in_err-row : goal.returns-in_err-row
returns-in_err-row c =
    rw c.from_residual.ensures (content_unset _ _ _ _ _ c.last.ensures c.in_err-row.was)

pub range_of-requires : goal.range_of-requires
range_of-requires c = last_fits c.args.self.now.readable _ _ c.last.ensures c.in_ok-row.was

pub returns : goal.returns
returns c = content_at _ _ _ _ _ c.last.ensures c.in_ok-row.was c.range_of.ensures
