-- `read_text` meets its contract: the bytes missing, no UTF-8, or their range. Assumes nothing.
use mathlib.Core.Path.{◌≡◌, sym, ap, ◌∙◌}
use native.Mathlib.Omega.{arith}
use Prim.Native.Nat.{◌-◌}
use borrow.Author.Tests.{leb-true}
use Rattle.header.specs.declared.cursor.Cursor.{Cursor}
use Rattle.std.proofs.lemmas.Result.{err_from_is_err_and}
use Rattle.bodies_rules.proofs.Ends.{end_there, end_missing}
use Rattle.bodies_rules.proofs.ByKind.{text_ends, text_bad, text_there}
use Rattle.bodies.proofs.range.read_text.Goals as goal

pub returns-in_err-next : goal.returns-in_err-next
returns-in_err-next c =
    let p = err_from_is_err_and c.from_residual.result c.from_residual.ensures.1 in
    let m = end_missing _ _ _ _ _ _ _ c.end_of.ensures c.ok_or.ensures.value c.in_err-next.was in
    rw (p.1, p.2, m.0) (text_ends _ _ _ m.1)

pub slice_bounds-is_utf8-end : goal.slice_bounds-is_utf8-end
slice_bounds-is_utf8-end c =
    let there = end_there _ _ _ _ _ _ c.end_of.ensures c.ok_or.ensures.ok_part c.in_ok-next.was in
    let e = ap (λ (x : Cursor). x.at) there.1 in
    omega (arith, leb-true _ _ there.0, e)

pub returns-then-not-is_utf8 : goal.returns-then-not-is_utf8
returns-then-not-is_utf8 c =
    let there = end_there _ _ _ _ _ _ c.end_of.ensures c.ok_or.ensures.ok_part c.in_ok-next.was in
    let bad = sym c.is_utf8.ensures.answer ∙ c.if-not-is_utf8.true in
    let e = ap (λ (x : Cursor). x.at) there.1 in
    let n : c.in_ok-next.next.at - c.args.place.at ≡ c.args.size = omega (arith, e) in
    text_bad _ _ _ there.0 (rw n at bad)

pub returns : goal.returns
returns c =
    let there = end_there _ _ _ _ _ _ c.end_of.ensures c.ok_or.ensures.ok_part c.in_ok-next.was in
    let good = sym c.is_utf8.ensures.answer ∙ c.if-not-is_utf8.false in
    let e = ap (λ (x : Cursor). x.at) there.1 in
    let n : c.in_ok-next.next.at - c.args.place.at ≡ c.args.size = omega (arith, e) in
    rw there.1 (text_there _ _ _ there.0 (rw n at good))
