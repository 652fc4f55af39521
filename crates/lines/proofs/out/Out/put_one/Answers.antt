-- `put_one`: what is held before the byte is as it was, or written away.
use mathlib.Core.Path.{◌≡◌, sym, ap, ◌∙◌, subst}
use Rattle.std.proofs.Common.{rules, [], ◌∷◌, Some, take, length, ◌<◌, ◌≤◌}
use Rattle.std.proofs.lemmas.List.{take_more_set, length-take-le}
use Rattle.lines.specs.Gathered.{Keeps, held_bytes}
use Rattle.lines.proofs.Kept.{keeps_same, keeps_emptied, keeps_put, keeps_more}
use Rattle.lines.proofs.out.Out.put_one.Goals as goal

-- src/out.rt:83:5
pub returns-in-Ok-clause-kept : goal.returns-in-Ok-clause-kept
returns-in-Ok-clause-kept c =
    let before : Keeps c.args.self.now [] c.match-self.self = search (rules, keeps_same, keeps_emptied) in
    let held : c.match-self.self ≡ Some (take c.in-Ok.held c.self-2.inside.room) = sym c.self-2.view_is ∙ ap (held_bytes c.self-2.inside.room) c.in-Ok.is in
    let fits : c.in-Ok.held ≤ length c.self-2.inside.room = search rules in
    let count : length (take c.in-Ok.held c.self-2.inside.room) ≡ c.in-Ok.held = length-take-le c.in-Ok.held c.self-2.inside.room fits in
    let room : c.in-Ok.held < length c.self-2.inside.room = search rules in
    subst (Keeps c.args.self.now (c.args.byte ∷ [])) (ap Some (sym (take_more_set c.self-2.inside.room c.in-Ok.held c.args.byte room)))
    (keeps_more _ [] _ (c.args.byte ∷ []) _ before (keeps_put _ _ _ held))
