-- `pass_over` meets its contract. Assumes nothing.
use mathlib.Core.Path.{sym, ◌∙◌}
use native.Mathlib.Omega.{arith}
use Rattle.header.proofs.Inside.{header_there}
use Rattle.walks_rules.proofs.Told.{over_ended, over_sized}
use Rattle.walks.proofs.pass.pass_over.Goals as goal

pub end_from-requires : goal.end_from-requires
end_from-requires c = c.requires.small

pub returns-then-is_unknown : goal.returns-then-is_unknown
returns-then-is_unknown c =
    let x = c.args in
    over_ended x.live x.recording.now x.end x.element _
    (sym c.is_unknown.ensures ∙ c.if-is_unknown.true) c.end_from.ensures

pub overflow_add-next : goal.overflow_add-next
overflow_add-next c =
    let p = c.requires in
    let t = header_there _ _ _ p.there in
    omega (arith, t.inside, t.sized, p.small)

pub returns : goal.returns
returns c =
    let x = c.args in
    over_sized x.live x.recording.now x.end x.element
    (sym c.is_unknown.ensures ∙ c.if-is_unknown.false)
