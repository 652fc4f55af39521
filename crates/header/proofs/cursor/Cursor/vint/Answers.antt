-- `Cursor::vint` meets its contract, by how many octets its width asks for. Assumes nothing.
use mathlib.Core.Path.{ap, ◌∙◌, sym}
use native.Mathlib.Omega.{arith}
use Rattle.std.proofs.lemmas.Result.{err_from_is_err_and}
use Rattle.header.proofs.Vints.{vint_fault, vint_long, vint_number, as_vint, as_ends, as_there}
use Rattle.header.proofs.cursor.Cursor.vint.Goals as goal

pub returns-in_err-octets : goal.returns-in_err-octets
returns-in_err-octets c =
    let a = c.args in
    let p = err_from_is_err_and c.from_residual.result c.from_residual.ensures.1 in
    rw (p.1, p.2)
    (sym (vint_fault a.recording.now a.self.at a.most (omega arith) _ (sym c.octets.ensures ∙ c.in_err-octets.was)), tt)

pub returns-then-most-octets : goal.returns-then-most-octets
returns-then-most-octets c =
    let a = c.args in
    let o = sym c.octets.ensures ∙ c.in_ok-octets.was in
    (sym (vint_long a.recording.now a.self.at a.most (omega arith) c.in_ok-octets.octets o c.if-most-octets.true), tt)

pub returns-in_err-value : goal.returns-in_err-value
returns-in_err-value c =
    let a = c.args in
    let n = c.in_ok-octets.octets in
    let o = sym c.octets.ensures ∙ c.in_ok-octets.was in
    let by_number = vint_number a.recording.now a.self.at a.most (omega arith) n o (omega arith) in
    let p = err_from_is_err_and c.from_residual-in_err-value.result c.from_residual-in_err-value.ensures.1 in
    let e = as_ends n c.number.result _ (sym c.ok_or.ensures.value ∙ c.in_err-value.was) in
    rw (p.1, p.2) (sym (by_number ∙ ap (as_vint n) (sym c.number.ensures.0) ∙ e), tt)

pub returns : goal.returns
returns c =
    let a = c.args in
    let n = c.in_ok-octets.octets in
    let o = sym c.octets.ensures ∙ c.in_ok-octets.was in
    let by_number = vint_number a.recording.now a.self.at a.most (omega arith) n o (omega arith) in
    let v = c.in_ok-value in
    let e = as_there c.number.result v.value v.next (sym c.ok_or.ensures.value ∙ v.was) in
    (sym (by_number ∙ ap (as_vint n) (sym c.number.ensures.0 ∙ e)), (omega arith, rw e at c.number.ensures.1))
