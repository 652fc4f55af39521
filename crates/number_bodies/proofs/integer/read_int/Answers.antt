-- `read_int` meets its contract: over 8 bytes, the bytes missing, or a value. Assumes nothing.
use Rattle.std.proofs.Common.{ℤ, ap, ◌∙◌, arith, to_z-of_z, w64, Ok}
use Rattle.std.specs.Result.{result_ok}
use Rattle.std.proofs.lemmas.Result.{err_from_is_err_and}
use Rattle.bodies_rules.specs.declared.body.Body.TheVariants.{Value}
use Rattle.bodies_rules.specs.declared.body.Value.TheVariants.{Integer}
use Rattle.bodies_rules.proofs.Found.{found_ok, ended_err}
use Rattle.bodies_rules.proofs.ByKind.{int_long, int_ends, int_there}
use Rattle.number_bodies.proofs.integer.read_int.Goals as goal

pub returns-in_err-value : goal.returns-in_err-value
returns-in_err-value c =
    let p = err_from_is_err_and c.from_residual.result c.from_residual.ensures.1 in
    let m = ended_err _ _ _ _ _ _ _ c.number.ensures.0 c.ok_or.ensures.value c.in_err-value.was in
    rw (p.1, p.2, m.0) (int_ends _ _ _ m.1 (omega arith))

pub signed-requires : goal.signed-requires
signed-requires c =
    let told = c.ok_or.ensures.ok_part ∙ ap result_ok c.in_ok-value.was in
    (omega arith, rw told at c.number.ensures.1)

pub returns : goal.returns
returns c =
    let there = found_ok _ _ _ _ _ _ _ c.number.ensures.0 c.ok_or.ensures.ok_part c.in_ok-value.was in
    let value = to_z-of_z {w = w64} (record { sfits = c.signed.type_inv }) ∙ c.signed.ensures in
    ap (λ (z : ℤ). Ok (Value (Integer z), c.in_ok-value.next)) value ∙ int_there _ _ _ _ _ there (omega arith)

pub returns-then-size-gt8 : goal.returns-then-size-gt8
returns-then-size-gt8 c = int_long _ _ _ c.if-size-gt8.true
