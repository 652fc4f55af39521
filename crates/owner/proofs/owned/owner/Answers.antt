-- `owner` meets its contract: it is `owner_chain` with a chain of its own. Assumes nothing.
use native.Mathlib.Omega.{arith}
use Rattle.owner_rules.proofs.Asked.{owner_of_chain}
use Rattle.owner.proofs.owned.owner.Goals as goal

pub returns : goal.returns
returns c = owner_of_chain _ _ _ _ _ _ _ _ _ (omega arith) c.owner_chain.ensures
