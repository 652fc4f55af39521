-- `is_ended_by` meets its contract: no id ends a stretch with a known end. Assumes nothing.
use mathlib.Core.Path.{refl, ◌∙◌}
use Rattle.walks_rules.specs.Step.{ended_by}
use Rattle.walks.proofs.ends.is_ended_by.Goals as goal

pub returns-in-Sized : goal.returns-in-Sized
unfolding ended_by
returns-in-Sized c = rw c.in-Sized.is refl

pub returns-in-Endless : goal.returns-in-Endless
unfolding ended_by
returns-in-Endless c = c.ends_before.ensures ∙ rw c.in-Endless.is refl
