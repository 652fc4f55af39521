-- `find` meets its contract: a step for each level. Assumes nothing.
use native.Mathlib.Omega.{arith}
use Rattle.locate_rules.proofs.Ways.{still_known, none_first, none_second, none_third, leads_to}
use Rattle.locate.proofs.steps.find.Goals as goal

pub returns-in_err-one : goal.returns-in_err-one
returns-in_err-one c = rw c.from_residual.ensures (none_first _ _ _ c.enter.ensures c.in_err-one.was)

pub enter-requires-2 : goal.enter-requires-2
enter-requires-2 c =
    (c.requires, still_known c.args.table.now c.args.rows 0 c.args.way.first (omega arith) c.enter.ensures c.in_ok-one.was)

pub returns-in_err-two : goal.returns-in_err-two
returns-in_err-two c =
    rw c.from_residual-in_err-two.ensures
    (none_second _ _ _ c.enter.ensures c.in_ok-one.was c.enter-2.ensures c.in_err-two.was)

pub enter-requires-3 : goal.enter-requires-3
enter-requires-3 c =
    let w = c.args.way in
    let one = still_known c.args.table.now c.args.rows 0 w.first (omega arith) c.enter.ensures c.in_ok-one.was in
    (c.requires, still_known c.args.table.now c.args.rows _ w.second one c.enter-2.ensures c.in_ok-two.was)

pub returns-in_err-parent : goal.returns-in_err-parent
returns-in_err-parent c =
    rw c.from_residual-in_err-parent.ensures
    (none_third _ _ _ c.enter.ensures c.in_ok-one.was c.enter-2.ensures c.in_ok-two.was c.enter-3.ensures c.in_err-parent.was)

pub rows_below-requires : goal.rows_below-requires
rows_below-requires c =
    let w = c.args.way in
    let one = still_known c.args.table.now c.args.rows 0 w.first (omega arith) c.enter.ensures c.in_ok-one.was in
    let two = still_known c.args.table.now c.args.rows _ w.second one c.enter-2.ensures c.in_ok-two.was in
    (c.requires, still_known c.args.table.now c.args.rows _ w.third two c.enter-3.ensures c.in_ok-parent.was)

pub returns : goal.returns
returns c =
    leads_to _ _ _ c.enter.ensures c.in_ok-one.was c.enter-2.ensures c.in_ok-two.was c.enter-3.ensures c.in_ok-parent.was
    c.rows_below.ensures
