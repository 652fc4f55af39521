-- `linked_heads`: the chain of linked heads, one after another. Assumes nothing.
use Prim.Native.Nat.{◌-◌}
use Rattle.seekchain_rules.proofs.Chains.{Chaining}
use Rattle.seekchain.proofs.heads.linked_heads.Given as goal

abbrev pub invariant-loop-found : goal.invariant-loop-found
invariant-loop-found l = Chaining l.live l.recording l.wanted l.start l.initial.head l.seen l.n l.head l.parts

abbrev pub decreases-loop-found : goal.decreases-loop-found
decreases-loop-found l = 64 - l.n
