-- `read_again` meets its contract: the table is cleared, then 14, then the reading. Assumes nothing.
use mathlib.Core.Path.{sym, ◌∙◌}
use Rattle.elements_rules.proofs.Whole.{zeros_as, as_lent, not_allowed}
use Rattle.elements.proofs.reply.read_again.Goals as goal

pub returns-then-not-is_allowed : goal.returns-then-not-is_allowed
returns-then-not-is_allowed c =
    rw c.at.ensures
    (as_lent _ _ _ _ _ _ _ _ _ c.clear_rows.auto.table
    (not_allowed _ _ _ _ _ _ _ (sym c.is_allowed.ensures ∙ c.if-not-is_allowed.true)
    (c.clear_rows.ensures ∙ zeros_as (sym c.clear_rows.auto.table))))

pub fill-requires : goal.fill-requires
fill-requires c = record {
  table_value = sym c.is_allowed.ensures ∙ c.if-not-is_allowed.false;
  table_value_2 = c.clear_rows.ensures ∙ zeros_as (sym c.clear_rows.auto.table);
}

pub returns : goal.returns
returns c =
    as_lent _ _ _ _ _ _ _ _ _ c.clear_rows.auto.table c.fill.ensures
