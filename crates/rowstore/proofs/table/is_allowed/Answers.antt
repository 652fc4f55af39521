-- `is_allowed` meets its contract: a place of the recording, and a table. Assumes nothing.
use mathlib.Core.Path.{sym, ◌∙◌}
use lib.ListN.{length}
use Rattle.elements_rules.proofs.Limits.{by_table, no_place}
use Rattle.rowstore.proofs.table.is_allowed.Goals as goal

pub returns-then-is_place : goal.returns-then-is_place
returns-then-is_place c =
    let a = c.args in
    c.is_table.ensures
    ∙ by_table a.recording.now a.start (length a.table.now) (sym c.is_place.ensures ∙ c.if-is_place.true)

pub returns-else-is_place : goal.returns-else-is_place
returns-else-is_place c =
    let a = c.args in
    c.is_place.ensures
    ∙ no_place a.recording.now a.start (length a.table.now) (sym c.is_place.ensures ∙ c.if-is_place.false)
