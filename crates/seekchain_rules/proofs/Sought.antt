-- What a sought address and an entry for a further head lead to. Assumes nothing.
use Prim.Native.Nat.{ℕ, ◌+◌, ◌<◌}
use mathlib.Core.Path.{◌≡◌, refl, sym, ap, ◌∙◌}
use mathlib.Core.List.{List}
use mathlib.Core.Bool.{Bool, true, false, cond}
use native.Mathlib.Omega.{arith}
use lib.ListN.{length}
use lib.Dec.{leb, eqb}
use borrow.Author.Tests.{eqb-true, leb-false}
use Rattle.refusals.specs.Refusals.{past_end, stale_entry}
use Rattle.refusals.specs.declared.refusal.Refusal.{Refusal}
use Rattle.header.specs.Reads.{header_at}
use Rattle.header.specs.declared.cursor.Headed.{Headed}
use Rattle.header.proofs.Inside.{header_there}
use Rattle.kinds.specs.Kinds.{member}
use Rattle.seekhead_rules.specs.Seeks.{seek_head_id}
use Rattle.walks_rules.specs.Answers.{on_header}
use Rattle.walks_rules.specs.Step.{child_at, on_child}
use Rattle.walks_rules.specs.declared.step.Stretch.TheVariants.{Sized}
use Rattle.walks_rules.proofs.Steps.{stepped_on}
use Rattle.seekchain_rules.specs.Heads.{too_far, sought, most_heads, next_head}
use Rattle.seekchain_rules.specs.Theorems.{IsAt, NextOrder, NextInOrder}
use Rattle.std.proofs.Common.{Result, Option, Ok, Err, Some, None}

-- What a sought address holds: an element that is there, with that id.
pub sought_is : (live : Bool) (s : List ℕ) (address id : ℕ) (e : Headed) → sought live s address id ≡ Ok e
    → IsAt s id address e
unfolding sought
sought_is live s address id e q = by_child (child_at live s (Sized (length s)) address) refl q
  where
    by_id : (x : Headed) (b : Bool) → eqb x.header.id id ≡ b → header_at s address ≡ Ok x
        → cond b (Ok x) (Err (stale_entry address)) ≡ Ok e → IsAt s id address e
    by_id x true k h w =
        let a : x ≡ e = cc in
        record { head = h ∙ w; named = ap (λ (y : Headed). y.header.id) (sym a) ∙ eqb-true x.header.id id k }
    by_id x false k h w = let z : ◌≡◌ {A = ℕ} 0 1 = cc in absurd (omega arith)

    by_child : (x : Result (Option Headed) Refusal) → child_at live s (Sized (length s)) address ≡ x
        → on_child x (Err (past_end address)) Err (λ y.
        cond (eqb y.header.id id) (Ok y) (Err (stale_entry address)))
        ≡ Ok e
        → IsAt s id address e
    by_child (Ok (Some x)) k w = by_id x (eqb x.header.id id) refl
        (stepped_on live s (Sized (length s)) address x k).here w
    by_child (Ok None) k w = let z : ◌≡◌ {A = ℕ} 0 1 = cc in absurd (omega arith)
    by_child (Err c) k w = let z : ◌≡◌ {A = ℕ} 0 1 = cc in absurd (omega arith)

-- A head that is to be read next: it is one, at another address than those before, and fewer than 64 were read.
pub record IsNext (s seen : List ℕ) (head : Headed) : Type 0 where
  pub is : IsAt s seek_head_id head.place.at head
  pub new : member head.place.at seen ≡ false
  pub few : length seen < most_heads

-- ---- the order of the tests

pub next_in_order : NextInOrder
unfolding next_head
next_in_order live s start seen = record {
  none = refl;
  eight = λ p a. rw a refl;
  ten = λ p a b. rw (a, b) refl;
  eleven = λ p a b c. rw (a, b, c) refl;
  there = λ p a b c. rw (a, b, c) refl;
}

module _ (live : Bool) (s : List ℕ) (start : ℕ) (seen : List ℕ) (head : Headed) where
  abbrev order : NextOrder live s start seen
  order = next_in_order live s start seen

  by_sought : (to : ℕ) → member to seen ≡ false → length seen < most_heads
      → (x : Result Headed Refusal) → sought live s to seek_head_id ≡ x → on_header x Err (λ x. Ok (Some x)) ≡ Ok (Some head) → IsNext s seen head
  by_sought to m l (Ok e) q w =
      let a : e ≡ head = cc in
      let i = sought_is live s to seek_head_id head (q ∙ ap Ok a) in
      let p = (header_there s to head i.head).begins in
      record {
        is = record { head = ap (header_at s) p ∙ i.head; named = i.named };
        new = ap (λ (x : ℕ). member x seen) p ∙ m;
        few = l;
      }
  by_sought to m l (Err e) q w = let z : ◌≡◌ {A = ℕ} 0 1 = cc in absurd (omega arith)

  refused_is_none : (e : Refusal) (x : Result (Option Headed) Refusal) → x ≡ Err e → x ≡ Ok (Some head) → ⊥
  refused_is_none e x q w = let z : ◌≡◌ {A = ℕ} 0 1 = cc in omega arith

  by_tests : (p : ℕ) → next_head live s start seen (Some p) ≡ Ok (Some head) → (far : Bool) → too_far start p ≡ far
      → (b : Bool) → member (start + p) seen ≡ b → (c : Bool) → leb most_heads (length seen) ≡ c → IsNext s seen head
  by_tests p w true a b m c l = absurd (refused_is_none _ _ (order.eight p a) w)
  by_tests p w false a true m c l = absurd (refused_is_none _ _ (order.ten p a m) w)
  by_tests p w false a false m true l = absurd (refused_is_none _ _ (order.eleven p a m l) w)
  by_tests p w false a false m false l =
      by_sought (start + p) m (leb-false most_heads (length seen) l) (sought live s (start + p) seek_head_id) refl
      (sym (order.there p a m l) ∙ w)

  pub next_is : (link : Option ℕ) → next_head live s start seen link ≡ Ok (Some head) → IsNext s seen head
  next_is None w = let n = sym order.none ∙ w in let z : ◌≡◌ {A = ℕ} 0 1 = cc in absurd (omega arith)
  next_is (Some p) w =
      by_tests p w (too_far start p) refl (member (start + p) seen) refl (leb most_heads (length seen)) refl
