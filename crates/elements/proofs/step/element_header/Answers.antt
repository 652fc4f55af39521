-- `element_header` meets its contract: the header at the place, and 17. Assumes nothing.
use mathlib.Core.Path.{sym, ◌∙◌}
use Rattle.std.proofs.lemmas.Result.{err_from_is_err_and}
use Rattle.elements_rules.proofs.Parts.{told_refused, told_unknown, told_known}
use Rattle.elements.proofs.step.element_header.Goals as goal

pub returns-in_err-headed : goal.returns-in_err-headed
returns-in_err-headed c =
    let x = c.args in
    let p = err_from_is_err_and c.from_residual.result c.from_residual.ensures.1 in
    rw (p.1, p.2)
    (told_refused x.live x.recording.now x.place.at _
    (sym c.header.ensures ∙ c.in_err-headed.was))

pub returns-then-is_unknown : goal.returns-then-is_unknown
returns-then-is_unknown c =
    let x = c.args in
    rw c.at.ensures
    (told_unknown x.live x.recording.now x.place.at _
    (sym c.header.ensures ∙ c.in_ok-headed.was)
    (sym c.is_unknown.ensures ∙ c.if-is_unknown.true))

pub returns : goal.returns
returns c =
    let x = c.args in
    told_known x.live x.recording.now x.place.at _
    (sym c.header.ensures ∙ c.in_ok-headed.was)
    (sym c.is_unknown.ensures ∙ c.if-is_unknown.false)
