-- `next_head`: the tests of an entry for a further head, in their order. Assumes nothing.
use mathlib.Core.Path.{refl, sym, ◌∙◌}
use native.Mathlib.Omega.{arith}
use Prim.Native.Nat.{◌+◌}
use lib.ListN.{length}
use borrow.Author.Tests.{le-leb, lt-leb}
use Rattle.booleans.proofs.Handed.{handed}
use Rattle.seekchain_rules.specs.Heads.{next_head}
use Rattle.seekchain_rules.proofs.Positions.{near}
use Rattle.seekchain_rules.proofs.Seen.{any_member}
use Rattle.seekchain.proofs.heads.next_head.Goals as goal

pub returns-in_default : goal.returns-in_default
unfolding next_head
returns-in_default c = rw c.in_default.is refl

pub returns-then-is_too_far : goal.returns-then-is_too_far
unfolding next_head
returns-then-is_too_far c =
    rw (
      c.in-Some.is,
      sym c.is_too_far.ensures ∙ c.if-is_too_far.true,
      sym c.requires,
    )
    refl

pub overflow_add-address : goal.overflow_add-address
overflow_add-address c =
    omega (arith, near c.args.start c.in-Some.position (sym c.is_too_far.ensures ∙ c.if-is_too_far.false))

pub returns-then-contains : goal.returns-then-contains
unfolding next_head
returns-then-contains c =
    rw (
      c.in-Some.is,
      sym c.is_too_far.ensures ∙ c.if-is_too_far.false,
      sym (any_member (c.args.start + c.in-Some.position) c.args.seen.now) ∙ sym c.contains.ensures.value ∙ c.if-contains.true,
    )
    refl

pub returns-then-seen-ge-MOST_HEADS : goal.returns-then-seen-ge-MOST_HEADS
unfolding next_head
returns-then-seen-ge-MOST_HEADS c =
    rw (
      c.in-Some.is,
      sym c.is_too_far.ensures ∙ c.if-is_too_far.false,
      sym (any_member (c.args.start + c.in-Some.position) c.args.seen.now) ∙ sym c.contains.ensures.value ∙ c.if-contains.false,
      le-leb 64 (length c.args.seen.now) (omega (arith, c.if-seen-ge-MOST_HEADS.true)),
    )
    refl

pub returns-in_err-head : goal.returns-in_err-head
unfolding next_head
returns-in_err-head c =
    handed _ c.from_residual.ensures.1
    ∙ rw (
      c.in-Some.is,
      sym c.is_too_far.ensures ∙ c.if-is_too_far.false,
      sym (any_member (c.args.start + c.in-Some.position) c.args.seen.now) ∙ sym c.contains.ensures.value ∙ c.if-contains.false,
      lt-leb 64 (length c.args.seen.now) (omega (arith, c.if-seen-ge-MOST_HEADS.false)),
      sym c.sought.ensures ∙ c.in_err-head.was,
    )
    refl

pub returns : goal.returns
unfolding next_head
returns c =
    rw (
      c.in-Some.is,
      sym c.is_too_far.ensures ∙ c.if-is_too_far.false,
      sym (any_member (c.args.start + c.in-Some.position) c.args.seen.now) ∙ sym c.contains.ensures.value ∙ c.if-contains.false,
      lt-leb 64 (length c.args.seen.now) (omega (arith, c.if-seen-ge-MOST_HEADS.false)),
      sym c.sought.ensures ∙ c.in_ok-head.was,
    )
    refl
