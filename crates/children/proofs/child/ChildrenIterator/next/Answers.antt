-- `next` meets its contract: no child is passed over before one is given. Assumes nothing.
use Rattle.std.proofs.Common.{◌∙◌, ap, arith, length}
use Rattle.fields_rules.proofs.Rest.{rest_end, turn_hit, turn_miss}
use Rattle.children.proofs.child.ChildrenIterator.next.Goals as goal

pub returns-then-is_child-clause-steps : goal.returns-then-is_child-clause-steps
returns-then-is_child-clause-steps c =
    let s = c.loop-self.self in
    c.loop-self.invariant
    ∙ turn_hit s.within s.id s.kind s.low c.loop-self-test.true c.row_at-row.ensures c.is_child.ensures c.if-is_child.true

pub returns-then-is_child-clause-goes : goal.returns-then-is_child-clause-goes
returns-then-is_child-clause-goes c =
    let s = c.loop-self.self in
    let fewer =
    ap length
    (c.loop-self.invariant
    ∙ turn_hit s.within s.id s.kind s.low c.loop-self-test.true c.row_at-row.ensures c.is_child.ensures c.if-is_child.true) in
    search arith

pub loop-self-preserved : goal.loop-self-preserved
loop-self-preserved c =
    let s = c.loop-self.self in
    c.loop-self.invariant
    ∙ turn_miss s.within s.id s.kind s.low c.loop-self-test.true c.row_at-row.ensures c.is_child.ensures c.if-is_child.false

pub returns-clause-steps : goal.returns-clause-steps
returns-clause-steps c =
    let s = c.loop-self.self in
    let none = rest_end s.table.now s.master.parent s.id s.kind s.master.end s.next c.loop-self-test.false in
    (c.loop-self.invariant ∙ none, none)
