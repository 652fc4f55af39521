-- `read_bytes` meets its contract: the bytes missing, or their range. Assumes nothing.
use Rattle.std.proofs.lemmas.Result.{err_from_is_err_and}
use Rattle.bodies_rules.proofs.Ends.{end_there, end_missing}
use Rattle.bodies_rules.proofs.ByKind.{bytes_ends, bytes_there}
use Rattle.bodies.proofs.range.read_bytes.Goals as goal

pub returns-in_err-next : goal.returns-in_err-next
returns-in_err-next c =
    let p = err_from_is_err_and c.from_residual.result c.from_residual.ensures.1 in
    let m = end_missing _ _ _ _ _ _ _ c.end_of.ensures c.ok_or.ensures.value c.in_err-next.was in
    rw (p.1, p.2, m.0) (bytes_ends _ _ _ m.1)

pub returns : goal.returns
returns c =
    let there = end_there _ _ _ _ _ _ c.end_of.ensures c.ok_or.ensures.ok_part c.in_ok-next.was in
    rw there.1 (bytes_there _ _ _ there.0)
