-- `from_head`: all linked heads are read, then the parts are sought. Assumes nothing.
use mathlib.Core.Path.{sym, ◌∙◌}
use Rattle.booleans.proofs.Handed.{handed}
use Rattle.open_rules.proofs.Going.{head_broken, head_read}
use Rattle.opening.proofs.turns.from_head.Goals as goal

pub returns-in_err-found : goal.returns-in_err-found
returns-in_err-found c =
    head_broken _ _ _ _ _ _ (sym c.in_err-found.was ∙ c.linked_heads.ensures) (handed _ c.from_residual.ensures.1)

pub returns : goal.returns
returns c =
    head_read _ _ _ _ _ _ (sym c.in_ok-found.was ∙ c.linked_heads.ensures) c.next_sought.ensures
