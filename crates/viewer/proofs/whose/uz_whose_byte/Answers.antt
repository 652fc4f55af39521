-- `uz_whose_byte` meets its contract: the reply of the call behind it in the mode that is named, or 14. Assumes
-- nothing.
use mathlib.Core.Path.{sym, ◌∙◌}
use Rattle.viewer_rules.proofs.Crossing.{place_crosses, place_unnamed}
use Rattle.viewer.proofs.whose.uz_whose_byte.Goals as goal

pub returns : goal.returns
returns c =
    rw c.place_face-2.ensures
    (place_crosses _ _ _ _ _ _ _ _ _ _ (sym c.chosen_mode.ensures
    ∙ c.in-Some.is) c.whose_byte.ensures)

pub returns-in_default : goal.returns-in_default
returns-in_default c =
    rw c.place_face.ensures
    (place_unnamed _ _ _ _ _ _ _ _ (sym c.chosen_mode.ensures
    ∙ c.in_default.is) c.clear.ensures)
