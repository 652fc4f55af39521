-- `read_uint` meets its contract: over 8 bytes, the bytes missing, or a value. Assumes nothing.
use Rattle.std.proofs.Common.{arith}
use Rattle.std.proofs.lemmas.Result.{err_from_is_err_and}
use Rattle.bodies_rules.proofs.Found.{found_ok, ended_err}
use Rattle.bodies_rules.proofs.ByKind.{uint_long, uint_ends, uint_there}
use Rattle.number_bodies.proofs.integer.read_uint.Goals as goal

pub returns-in_err-value : goal.returns-in_err-value
returns-in_err-value c =
    let p = err_from_is_err_and c.from_residual.result c.from_residual.ensures.1 in
    let m = ended_err _ _ _ _ _ _ _ c.number.ensures.0 c.ok_or.ensures.value c.in_err-value.was in
    rw (p.1, p.2, m.0) (uint_ends _ _ _ m.1 (omega arith))

pub returns : goal.returns
returns c =
    uint_there _ _ _ _ _
    (found_ok _ _ _ _ _ _ _ c.number.ensures.0 c.ok_or.ensures.ok_part c.in_ok-value.was) (omega arith)

pub returns-then-size-gt8 : goal.returns-then-size-gt8
returns-then-size-gt8 c = uint_long _ _ _ c.if-size-gt8.true
