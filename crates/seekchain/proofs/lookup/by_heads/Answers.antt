-- `by_heads`: the part that the heads lead to. Assumes nothing.
use mathlib.Core.Path.{sym, ◌∙◌}
use Rattle.booleans.proofs.Handed.{handed}
use Rattle.seekchain_rules.proofs.Lookups.{chain_broken, chain_read}
use Rattle.seekchain.proofs.lookup.by_heads.Goals as goal

pub returns-in_err-found : goal.returns-in_err-found
returns-in_err-found c =
    handed _ c.from_residual.ensures.1
    ∙ chain_broken _ _ _ _ _ _ (sym c.in_err-found.was ∙ c.linked_heads.ensures)

pub returns : goal.returns
returns c =
    chain_read _ _ _ _ _ _ (sym c.in_ok-found.was ∙ c.linked_heads.ensures) _ c.part_at.ensures
