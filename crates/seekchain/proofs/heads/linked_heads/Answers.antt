-- `linked_heads`: the chain of linked heads, one after another. Assumes nothing.
use mathlib.Core.Path.{refl, sym, ap, ◌∙◌}
use Rattle.std.proofs.Common.{Ok}
use Rattle.booleans.proofs.Handed.{handed}
use native.Mathlib.Omega.{arith}
use Prim.Native.Nat.{◌+◌}
use lib.ListN.{set, length-set}
use lib.Seq.{length-take-le}
use Rattle.seekchain_rules.proofs.Chains.{chaining_holds, chaining_lost, chaining_stops, chaining_ends}
use Rattle.seekchain_rules.proofs.Chains.{chaining_on, chaining_last}
use Rattle.seekchain.proofs.heads.linked_heads.Goals as goal

pub loop-found-init : goal.loop-found-init
loop-found-init c = chaining_holds _ _ _ _ _ _ refl c.requires.there

pub head_body-requires : goal.head_body-requires
head_body-requires c =
    let p = c.requires in
    record { small = p.small; there = c.loop-found.invariant.there }

pub returns-in_err-found : goal.returns-in_err-found
returns-in_err-found c =
    handed _ c.from_residual.ensures.1
    ∙ chaining_lost _ _ _ _ _ _ _ _ _ c.loop-found.invariant _ (sym c.in_err-found.was ∙ c.head_body.ensures)

pub next_head-requires : goal.next_head-requires
next_head-requires c = chaining_last _ _ _ _ _ _ _ _ _ c.loop-found.invariant

pub slice_bounds-next_head-end : goal.slice_bounds-next_head-end
slice_bounds-next_head-end c =
    let g = c.loop-found.invariant in
    let l = length-set c.loop-found.seen c.loop-found.n c.loop-found.head.place.at in
    sym (length-take-le (c.loop-found.n + 1) (set c.loop-found.seen c.loop-found.n c.loop-found.head.place.at)
    (omega (arith, g.few, g.long, l)))

pub returns-in_err-next : goal.returns-in_err-next
returns-in_err-next c =
    handed _ c.from_residual-in_err-next.ensures.1
    ∙ chaining_stops _ _ _ _ _ _ _ _ _ c.loop-found.invariant _
    (sym c.in_ok-found.was ∙ c.head_body.ensures) _
    (sym c.in_err-next.was ∙ c.next_head.ensures)

pub returns-in-None : goal.returns-in-None
returns-in-None c =
    chaining_ends _ _ _ _ _ _ _ _ _ c.loop-found.invariant _
    (sym c.in_ok-found.was ∙ c.head_body.ensures)
    (sym (c.in_ok-next.was ∙ ap Ok c.in-None.is) ∙ c.next_head.ensures)

pub loop-found-smaller : goal.loop-found-smaller
loop-found-smaller c =
    omega (arith, c.loop-found.invariant.few)

pub loop-found-preserved : goal.loop-found-preserved
loop-found-preserved c =
    chaining_on _ _ _ _ _ _ _ _ _ c.loop-found.invariant _
    (sym c.in_ok-found.was ∙ c.head_body.ensures) _
    (sym (c.in_ok-next.was ∙ ap Ok c.in-Some.is) ∙ c.next_head.ensures)
