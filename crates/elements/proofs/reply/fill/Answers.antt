-- `fill` meets its contract: the reader's answer on the cleared table. Assumes nothing.
use mathlib.Core.Path.{◌∙◌}
use native.Mathlib.Omega.{arith}
use Rattle.elements_rules.proofs.Limits.{within}
use Rattle.elements_rules.proofs.Whole.{zeros_as, fill_refused, fill_done}
use Rattle.elements.proofs.reply.fill.Goals as goal

pub master_body-requires : goal.master_body-requires
master_body-requires c =
    let w = within _ _ _ c.requires.table_value in
    record {
      small = w.bytes;
      inside = w.inside;
      few = omega arith;
      room = λ kept. omega arith;
    }

pub returns-in-Err : goal.returns-in-Err
returns-in-Err c =
    fill_refused _ _ _ _ _ _ c.requires.table_value_2 c.requires.table_value _ _ _
    c.in-Err.ensures
    (c.clear.ensures ∙ zeros_as c.master_body.auto.table)

pub returns-in-Ok : goal.returns-in-Ok
returns-in-Ok c =
    fill_done _ _ _ _ _ _ c.requires.table_value_2 c.requires.table_value _ _ _ c.in-Ok.ensures
