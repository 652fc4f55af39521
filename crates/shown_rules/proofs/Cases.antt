-- The worked texts hold. Assumes nothing.
use mathlib.Core.Path.{refl}
use Rattle.shown_rules.specs.Shown.{shown}
use Rattle.shown_rules.specs.Cases.{Hold, cases}

pub cases_hold : Hold cases
unfolding shown
cases_hold = (refl, (refl, (refl, (refl, (refl, (refl, tt))))))
