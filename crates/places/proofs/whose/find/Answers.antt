-- `find` meets its contract: the rows before row n do not hold the address. Assumes nothing.
use mathlib.Core.Path.{sym, ap, ◌∙◌}
use Rattle.places_rules.specs.declared.whose.Holder.TheVariants.{Header, Payload}
use Rattle.places_rules.proofs.Spots.{walk_from, walk_step, walk_on, walk_ends}
use Rattle.places.proofs.whose.find.Goals as goal
use Rattle.std.proofs.Common.{Some}

pub returns-in-Some-Header : goal.returns-in-Some-Header
returns-in-Some-Header c =
    let q = sym (c.in-Some-Header.is ∙ ap Some c.in-Some-Header.field-0-is) ∙ c.held_by.ensures in
    sym (walk_step _ _ _ _ c.loop-n.invariant c.loop-n-test.true c.row_at.result c.row_at.ensures (Some Header) q)

pub returns-in-Some-Payload : goal.returns-in-Some-Payload
returns-in-Some-Payload c =
    let q = sym (c.in-Some-Payload.is ∙ ap Some c.in-Some-Payload.field-0-is) ∙ c.held_by.ensures in
    sym (walk_step _ _ _ _ c.loop-n.invariant c.loop-n-test.true c.row_at.result c.row_at.ensures (Some Payload) q)

pub loop-n-preserved : goal.loop-n-preserved
loop-n-preserved c =
    let q = c.in-None.ensures in
    walk_on _ _ _ _ c.loop-n.invariant c.loop-n-test.true c.row_at.result c.row_at.ensures q

pub loop-n-init : goal.loop-n-init
loop-n-init c = walk_from _ _ _

pub returns : goal.returns
returns c = rw c.at.ensures (walk_ends _ _ _ _ c.loop-n.invariant c.loop-n-test.false)
