-- `element` and `master_body` meet their contracts: the answers of their cycle of calls. Behind `keep_row` each answer
-- of `element` begins with what the row written there says. Assumes nothing.
use Rattle.std.proofs.Common.{not, sym, ap, ◌∙◌, arith, rules}
use Rattle.std.proofs.lemmas.Result.{err_from_is_err_and}
use Rattle.kinds.proofs.Numbers.{promised_kind}
use Rattle.bodies_rules.proofs.Replies.{mapped_err, mapped_ok}
use Rattle.elements_rules.specs.Reading.{master_body}
use Rattle.elements_rules.proofs.Reading.{going_holds, ends, child_out, child_too_long, child_again}
use Rattle.elements_rules.proofs.Steps.{header_fails, too_deep_law, payload_at, no_free, wrote, room_after}
use Rattle.elements_rules.proofs.Steps.{body_fails, leaf_met, master_broken, master_met}
use Rattle.elements.proofs.element.+element_master_body.Goals as goal

-- ---- `element`

pub element-returns-in_err-headed : goal.element-returns-in_err-headed
element-returns-in_err-headed t c =
    let x = c.args in
    let p = err_from_is_err_and c.from_residual.result c.from_residual.ensures.1 in
    rw (p.1, p.2)
    (header_fails x.recording.now x.mode x.table.now x.place x.rows x.above _ _ (sym c.in_err-headed.ensures))

pub element-returns-then-depth-ge-DEPTHS : goal.element-returns-then-depth-ge-DEPTHS
element-returns-then-depth-ge-DEPTHS t c =
    let x = c.args in
    rw c.at.ensures
    (too_deep_law x.recording.now x.mode x.table.now x.place x.rows x.above _ (sym c.in_ok-headed.ensures) _
    c.if-depth-ge-DEPTHS.true)

pub element-returns-then-not-keep_row : goal.element-returns-then-not-keep_row
element-returns-then-not-keep_row t c =
    let x = c.args in
    rw c.at-then-not-keep_row.ensures
    (no_free x.recording.now x.mode x.table.now x.place x.rows x.above _ (sym c.in_ok-headed.ensures)
    _ c.if-depth-ge-DEPTHS.false (promised_kind _ _ _ c.kind_of-kind.ensures) _ _ _ _
    (c.keep_row.ensures.value, c.keep_row.ensures.table_after) (ap not c.if-not-keep_row.true))

pub element-master_body-requires : goal.element-master_body-requires
element-master_body-requires t c =
    let x = c.args in
    let written =
    wrote x.recording.now x.mode x.table.now x.place x.rows x.above _ (sym c.in_ok-headed.ensures) _
    c.if-depth-ge-DEPTHS.false (promised_kind _ _ _ c.kind_of-kind.ensures) _ _ _ c.number-number.ensures
    (c.keep_row.ensures.value, c.keep_row.ensures.table_after) (ap not c.if-not-keep_row.false) in
    let (i, j, k) = payload_at x.recording.now x.mode x.table.now x.place x.rows x.above _ (sym c.in_ok-headed.ensures) in (
      omega arith,
      record {
        small = c.requires.small;
        inside = k;
        few = omega arith;
        room = room_after _ _ _ _ _ _ _ _ _ _ _ _ written;
      },
    )

pub element-returns-then-number-eq-MASTER : goal.element-returns-then-number-eq-MASTER
element-returns-then-number-eq-MASTER t c =
    let x = c.args in
    let written =
    wrote x.recording.now x.mode x.table.now x.place x.rows x.above _ (sym c.in_ok-headed.ensures) _
    c.if-depth-ge-DEPTHS.false (promised_kind _ _ _ c.kind_of-kind.ensures) _ _ _ c.number-number.ensures
    (c.keep_row.ensures.value, c.keep_row.ensures.table_after) (ap not c.if-not-keep_row.false) in
    let master = sym c.number-number.ensures ∙ c.if-number-eq-MASTER.true in
    master_met _ _ _ _ _ _ _ _ _ _ _ _ written master _ _ _ _ _ c.in_ok-last.was c.master_body.ensures
    c.close_row.ensures

pub element-returns-in_err-last : goal.element-returns-in_err-last
element-returns-in_err-last t c =
    let x = c.args in
    let written =
    wrote x.recording.now x.mode x.table.now x.place x.rows x.above _ (sym c.in_ok-headed.ensures) _
    c.if-depth-ge-DEPTHS.false (promised_kind _ _ _ c.kind_of-kind.ensures) _ _ _ c.number-number.ensures
    (c.keep_row.ensures.value, c.keep_row.ensures.table_after) (ap not c.if-not-keep_row.false) in
    let master = sym c.number-number.ensures ∙ c.if-number-eq-MASTER.true in
    let p = err_from_is_err_and c.from_residual-in_err-last.result c.from_residual-in_err-last.ensures.1 in
    let broken = master_broken _ _ _ _ _ _ _ _ _ _ _ _ written master _ _ _ c.in_err-last.was c.master_body.ensures in
    rw (p.1, p.2) (rw c.in_err-last.was at broken)

pub element-returns-in_err-next : goal.element-returns-in_err-next
element-returns-in_err-next t c =
    let x = c.args in
    let written =
    wrote x.recording.now x.mode x.table.now x.place x.rows x.above _ (sym c.in_ok-headed.ensures) _
    c.if-depth-ge-DEPTHS.false (promised_kind _ _ _ c.kind_of-kind.ensures) _ _ _ c.number-number.ensures
    (c.keep_row.ensures.value, c.keep_row.ensures.table_after) (ap not c.if-not-keep_row.false) in
    let p = err_from_is_err_and c.from_residual-in_err-next.result c.from_residual-in_err-next.ensures.1 in
    let (cause, told, at_header) =
    mapped_err x.place.at c.read_body.result c.map_err.result _ (λ cause e k. search rules) c.map_err.ensures.cases
    _ c.in_err-next.was in
    rw (p.1, p.2, at_header)
    (body_fails _ _ _ _ _ _ _ _ _ _ _ _ written _ (sym c.read_body.ensures ∙ told))

pub element-returns : goal.element-returns
element-returns t c =
    let x = c.args in
    let written =
    wrote x.recording.now x.mode x.table.now x.place x.rows x.above _ (sym c.in_ok-headed.ensures) _
    c.if-depth-ge-DEPTHS.false (promised_kind _ _ _ c.kind_of-kind.ensures) _ _ _ c.number-number.ensures
    (c.keep_row.ensures.value, c.keep_row.ensures.table_after) (ap not c.if-not-keep_row.false) in
    let told = mapped_ok c.read_body.result c.map_err.result _ c.map_err.ensures.cases _ c.in_ok-next.was in
    leaf_met _ _ _ _ _ _ _ _ _ _ _ _ written _ _
    (λ e. c.if-number-eq-MASTER.false (c.number-number.ensures ∙ e)) c.requires.few
    (sym c.read_body.ensures ∙ told)

-- ---- `master_body`

pub master_body-loop-left-init : goal.master_body-loop-left-init
master_body-loop-left-init t c =
    let x = c.args in
    let p = c.requires in
    going_holds x.recording.now x.table.now x.mode _ x.above.row x.above.depth x.from x.size
    x.first p.inside p.few p.room

pub master_body-returns-in_err-taken : goal.master_body-returns-in_err-taken
unfolding master_body
master_body-returns-in_err-taken t c =
    let loop = c.loop-left.invariant in
    let met = rw (c.in_err-taken.was, loop.same) at c.element.ensures in
    let p = err_from_is_err_and c.from_residual.result c.from_residual.ensures.1 in
    rw (p.1, p.2) (child_out _ _ _ _ _ _ c.args.from _ _ _ _ _ _ loop _ c.loop-left-test.true _ met)

pub master_body-returns-then-used-left : goal.master_body-returns-then-used-left
unfolding master_body
master_body-returns-then-used-left t c =
    let loop = c.loop-left.invariant in
    let met = rw (c.in_ok-taken.was, loop.same) at c.element.ensures in
    rw c.at.ensures
    (child_too_long _ _ _ _ _ _ c.args.from _ _ _ _ _ _ loop _ c.loop-left-test.true _ _ met c.if-used-left.true)

pub master_body-loop-left-preserved : goal.master_body-loop-left-preserved
master_body-loop-left-preserved t c =
    let loop = c.loop-left.invariant in
    let met = rw (c.in_ok-taken.was, loop.same) at c.element.ensures in
    child_again _ _ _ _ _ _ c.args.from _ _ _ _ _ _ loop _ c.loop-left-test.true _ _ met c.if-used-left.false

pub master_body-returns : goal.master_body-returns
unfolding master_body
master_body-returns t c =
    ends _ _ _ _ _ _ c.args.from _ _ _ _ _ _ c.loop-left.invariant (omega arith)
