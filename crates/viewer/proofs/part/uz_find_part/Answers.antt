-- `uz_find_part` meets its contract: the reply of the call behind it in the mode that is named, or 14. Assumes nothing.
use mathlib.Core.Path.{sym, ◌∙◌}
use Rattle.viewer_rules.proofs.Crossing.{part_crosses, part_unnamed}
use Rattle.viewer.proofs.part.uz_find_part.Goals as goal

pub returns : goal.returns
returns c =
    rw c.part_face-2.ensures
    (part_crosses _ _ _ _ _ _ _ (sym c.chosen_mode.ensures
    ∙ c.in-Some.is) c.find_part.ensures)

pub returns-in_default : goal.returns-in_default
returns-in_default c =
    rw c.part_face.ensures
    (part_unnamed _ _ _ _ _ (sym c.chosen_mode.ensures
    ∙ c.in_default.is) c.clear.ensures)
