-- `date` meets its contract: the last child of its id and kind decides. Assumes nothing.
use mathlib.Core.Path.{◌∙◌}
use mir.Syntax.{w64}
use mir.Facts.{to_z-of_z}
use Rattle.fields_rules.proofs.Picked.{last_holds}
use Rattle.fields_rules.proofs.Taken.{date_unset, date_is}
use Rattle.fields.proofs.field.Fields.date.Goals as goal

pub returns-in_err-row : goal.returns-in_err-row
returns-in_err-row c =
    rw c.from_residual.ensures (date_unset _ _ _ _ c.last.ensures c.in_err-row.was)

pub signed_in-requires : goal.signed_in-requires
signed_in-requires c = last_holds c.args.self.now.readable _ _ c.last.ensures c.in_ok-row.was

pub returns : goal.returns
returns c =
    let value = to_z-of_z {w = w64} (record { sfits = c.signed_in.type_inv }) ∙ c.signed_in.ensures in
    date_is _ _ _ _ c.last.ensures c.in_ok-row.was value
