-- `uz_owner` meets its contract: the face of the reply of `owner` in the mode that is named, or 14. Assumes nothing.
use mathlib.Core.Path.{sym, ◌∙◌}
use Rattle.viewer_rules.proofs.Crossing.{owner_crosses, owner_unnamed}
use Rattle.viewer.proofs.owned.uz_owner.Goals as goal

pub returns : goal.returns
returns c =
    rw c.owned_face-2.ensures
    (owner_crosses _ _ _ _ _ _ _ _ (sym c.chosen_mode.ensures ∙ c.in-Some.is)
    c.owner.ensures)

pub returns-in_default : goal.returns-in_default
returns-in_default c =
    rw (c.owned_face.ensures)
    (owner_unnamed _ _ _ _ _ _ (sym c.chosen_mode.ensures ∙ c.in_default.is))
