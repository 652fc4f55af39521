-- `walk` meets its contract: at each header the tests one after another, until one ends the walk. Assumes nothing.
use mathlib.Core.Path.{sym, ◌∙◌}
use native.Mathlib.Omega.{arith}
use Rattle.std.proofs.lemmas.Result.{err_from_is_err_and}
use Rattle.owner_rules.proofs.Walking.{walk_begins}
use Rattle.owner_rules.proofs.Turns.{turn_refused, turn_fits, turn_deep, turn_large, turn_header, turn_payload}
use Rattle.owner_rules.proofs.Turns.{turn_into, turn_past, turn_takes, turn_ends}
use Rattle.owner.proofs.owned.walk.Goals as goal

pub loop-left-init : goal.loop-left-init
loop-left-init c =
    walk_begins _ _ _ _ _ _ _ c.requires.address_value c.requires.chain_value

pub returns-in_err-headed : goal.returns-in_err-headed
returns-in_err-headed c =
    let w = c.loop-left.invariant in
    let p = err_from_is_err_and c.from_residual.result c.from_residual.ensures.1 in
    rw (p.1, p.2) (turn_refused _ _ _ _ _ _ _ _ _ _ _ _ w _ c.in_err-headed.ensures)

pub returns-then-depth-ge-DEPTHS : goal.returns-then-depth-ge-DEPTHS
returns-then-depth-ge-DEPTHS c =
    let w = c.loop-left.invariant in
    rw c.at.ensures (turn_deep _ _ _ _ _ _ _ _ _ _ _ _ w _ c.in_ok-headed.ensures c.if-depth-ge-DEPTHS.true)

pub overflow_add-whole : goal.overflow_add-whole
overflow_add-whole c =
    let fits = turn_fits _ _ _ _ _ _ _ _ _ _ _ _ c.loop-left.invariant _
    c.in_ok-headed.ensures c.requires.recording_len_bound in
    omega (arith, fits)

pub returns-then-whole-left : goal.returns-then-whole-left
returns-then-whole-left c =
    let w = c.loop-left.invariant in
    rw c.at-then-whole-left.ensures
    (turn_large _ _ _ _ _ _ _ _ _ _ _ _ w _ c.in_ok-headed.ensures c.if-depth-ge-DEPTHS.false
    c.if-whole-left.true)

pub returns-then-past-headed : goal.returns-then-past-headed
returns-then-past-headed c =
    let w = c.loop-left.invariant in
    turn_header _ _ _ _ _ _ _ _ _ _ _ _ w _ c.in_ok-headed.ensures c.if-depth-ge-DEPTHS.false
    c.if-whole-left.false _ c.if-past-headed.true c.keep_link.ensures

pub returns-then-number-ne-MASTER : goal.returns-then-number-ne-MASTER
returns-then-number-ne-MASTER c =
    let w = c.loop-left.invariant in
    turn_payload _ _ _ _ _ _ _ _ _ _ _ _ w _ c.in_ok-headed.ensures c.if-depth-ge-DEPTHS.false
    c.if-whole-left.false c.if-past-headed.false _ c.if-past-whole.true
    (λ m. c.if-number-ne-MASTER.true (c.number.ensures ∙ c.kind_of.ensures.reply ∙ m)) c.keep_link.ensures

pub loop-left-smaller-then-past-whole : goal.loop-left-smaller-then-past-whole
loop-left-smaller-then-past-whole c =
    let w = c.loop-left.invariant in
    let some = turn_takes _ _ _ _ _ _ _ _ _ _ _ _ w _ c.in_ok-headed.ensures in
    omega (arith, some, c.if-whole-left.false)

pub loop-left-preserved-then-past-whole : goal.loop-left-preserved-then-past-whole
loop-left-preserved-then-past-whole c =
    let w = c.loop-left.invariant in
    turn_into _ _ _ _ _ _ _ _ _ _ _ _ w _ c.in_ok-headed.ensures c.if-depth-ge-DEPTHS.false
    c.if-whole-left.false c.if-past-headed.false _ c.if-past-whole.true
    (sym c.kind_of.ensures.reply ∙ sym c.number.ensures ∙ c.if-number-ne-MASTER.false)
    c.keep_link.ensures

pub loop-left-smaller : goal.loop-left-smaller
loop-left-smaller c =
    let w = c.loop-left.invariant in
    let some = turn_takes _ _ _ _ _ _ _ _ _ _ _ _ w _ c.in_ok-headed.ensures in
    omega (arith, some, c.if-whole-left.false)

pub loop-left-preserved : goal.loop-left-preserved
loop-left-preserved c =
    let w = c.loop-left.invariant in
    turn_past _ _ _ _ _ _ _ _ _ _ _ _ w _ c.in_ok-headed.ensures c.if-depth-ge-DEPTHS.false
    c.if-whole-left.false c.if-past-whole.false

pub returns : goal.returns
returns c = turn_ends _ _ _ _ _ _ _ _ _ _ _ _ c.loop-left.invariant _ c.loop-left-test.false
