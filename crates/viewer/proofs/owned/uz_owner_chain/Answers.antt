-- `uz_owner_chain` meets its contract: the face of the reply of `owner_chain` in the mode that is named, and its chain;
-- or 14. Assumes nothing.
use mathlib.Core.Path.{sym, ◌∙◌}
use Rattle.viewer_rules.proofs.Crossing.{chain_crosses, chain_unnamed}
use Rattle.viewer.proofs.owned.uz_owner_chain.Goals as goal

pub returns : goal.returns
returns c =
    rw c.owned_face-2.ensures
    (chain_crosses _ _ _ _ _ _ _ _ _ _ (sym c.chosen_mode.ensures ∙ c.in-Some.is)
    c.owner_chain.ensures)

pub returns-in_default : goal.returns-in_default
returns-in_default c =
    rw (c.owned_face.ensures)
    (chain_unnamed _ _ _ _ _ _ _ _ (sym c.chosen_mode.ensures ∙ c.in_default.is)
    c.clear.ensures)
