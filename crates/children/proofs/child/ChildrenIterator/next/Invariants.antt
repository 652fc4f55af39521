-- `next` meets its contract: no child is passed over before one is given. Assumes nothing.
use Rattle.std.proofs.Common.{◌≡◌, ◌-◌}
use Rattle.children.specs.Left.{left}
use Rattle.children.proofs.child.ChildrenIterator.next.Given as goal

abbrev pub invariant-loop-self : goal.invariant-loop-self
invariant-loop-self l = left l.initial.self ≡ left l.self

abbrev pub decreases-loop-self : goal.decreases-loop-self
decreases-loop-self l = l.self.master.end - l.self.next
