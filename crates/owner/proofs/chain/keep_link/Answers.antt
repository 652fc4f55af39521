-- `keep_link` meets its contract. Assumes nothing.
use mathlib.Core.Path.{sym}
use Rattle.owner_rules.proofs.Links.{link_in, link_out}
use Rattle.owner.proofs.chain.keep_link.Goals as goal

pub returns-then-depth-chain : goal.returns-then-depth-chain
returns-then-depth-chain c = sym (link_in _ _ _ c.if-depth-chain.true)

pub returns-else-depth-chain : goal.returns-else-depth-chain
returns-else-depth-chain c = sym (link_out _ _ _ c.if-depth-chain.false)
