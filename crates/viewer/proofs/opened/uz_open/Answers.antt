-- `uz_open` meets its contract: the face of the reply of `open` in the mode that is named, and its tables; or 14.
-- Assumes nothing.
use mathlib.Core.Path.{refl, sym, ◌∙◌}
use Rattle.viewer_rules.proofs.Crossing.{open_crosses, open_unnamed}
use Rattle.viewer.proofs.opened.uz_open.Goals as goal

pub returns : goal.returns
returns c =
    rw c.opened_face-2.ensures
    (open_crosses _ _ _ _ _ _ (sym c.chosen_mode.ensures ∙ c.in-Some.is) c.«open».ensures)

pub returns-in_default : goal.returns-in_default
returns-in_default c =
    rw c.opened_face.ensures
    (open_unnamed _ _ _ _ (sym c.chosen_mode.ensures ∙ c.in_default.is)
    (rw (
      c.clear.ensures,
      c.clear-in_default.ensures,
      c.clear-in_default-2.ensures,
      c.clear-in_default-3.ensures,
      c.clear-in_default-4.ensures,
    ) refl))
