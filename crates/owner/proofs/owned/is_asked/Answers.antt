-- `is_asked` meets its contract: a place of the recording, and not too many links. Assumes nothing.
use mathlib.Core.Path.{sym, ◌∙◌}
use Rattle.owner_rules.proofs.Asked.{asked_place, asked_none}
use Rattle.owner.proofs.owned.is_asked.Goals as goal

pub returns-then-is_place : goal.returns-then-is_place
returns-then-is_place c = asked_place _ _ c.args.links (sym c.is_place.ensures ∙ c.if-is_place.true)

pub returns-else-is_place : goal.returns-else-is_place
returns-else-is_place c =
    c.is_place.ensures ∙ asked_none _ _ c.args.links (sym c.is_place.ensures ∙ c.if-is_place.false)
