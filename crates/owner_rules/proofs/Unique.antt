-- Any two replies, and chains, that a promise permits are equal (`OneOwned`, `OneChain`). Assumes nothing.
use Prim.Native.Nat.{ℕ}
use mathlib.Core.Path.{sym, ap, ◌∙◌}
use Rattle.owner_rules.specs.Owner.{chain_of}
use Rattle.owner_rules.specs.Promise.{owner_reply, links_of}
use Rattle.owner_rules.specs.Theorems.{OneOwned, OneChain}

pub owned_unique : OneOwned
owned_unique live s start size parent x r r' p q = p.reply ∙ sym q.reply

pub chain_unique : OneChain
chain_unique live s start size parent x t u r r' t' u' l p q = (
  p.reply ∙ ap (λ (n : ℕ). owner_reply (chain_of live s start size parent x n)) l ∙ sym q.reply,
  p.links ∙ ap (λ (n : ℕ). links_of n (chain_of live s start size parent x n)) l ∙ sym q.links,
)
