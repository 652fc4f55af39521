-- Every reply is 14 or 15 where they are due, an element that holds the address, or a fault that the way leads to: one
-- half of `OwnerExactly`. Assumes nothing.
use Prim.Native.Nat.{ℕ, zero, suc, ◌+◌, ◌-◌, ◌≤◌, ◌<◌}
use mathlib.Core.Path.{◌≡◌, refl, sym, ap, ◌∙◌, subst}
use mathlib.Core.List.{List, [], ◌∷◌}
use mathlib.Core.Logic.{inl, inr}
use mathlib.Core.Bool.{Bool, true, false}
use native.Mathlib.Nat.{zero-add}
use native.Mathlib.Omega.{arith}
use lib.ListN.{length, drop}
use Rattle.refusals.specs.Refusals.{because, bad_argument, outside}
use Rattle.refusals.specs.Reply.{Reply, accepted, refusal}
use Rattle.refusals.specs.declared.refusal.Cause.{Cause}
use Rattle.refusals.specs.declared.refusal.Cause.TheVariants.{Overrun, TooDeep}
use Rattle.refusals.specs.declared.refusal.Refusal.{Refusal}
use Rattle.header.specs.Header.{heading, header_of}
use Rattle.header.specs.declared.cursor.Header.{Header}
use Rattle.header.proofs.Inside.{header_inside}
use Rattle.elements_rules.specs.Reading.{element_header, depths}
use Rattle.elements_rules.specs.Holds.{within}
use Rattle.elements_rules.specs.Promise.{allowed}
use Rattle.elements_rules.specs.Faults.{Errand, to_owner, larger_asked, deeper_asked, Deeper, Fault}
use Rattle.elements_rules.specs.Faults.{FaultThere, there, callers}
use Rattle.elements_rules.proofs.Faults.{step_fault}
use Rattle.elements_rules.proofs.Parts.{of_taken, taken_there}
use Rattle.owner_rules.specs.Owner.{Side, header, payload, Owned, in_master, whole_of, own, owner_at, owner_of}
use Rattle.owner_rules.specs.Owner.{most_links, chain_of}
use Rattle.owner_rules.specs.Promise.{owner_reply, OwnerPromise}
use Rattle.owner_rules.specs.Way.{IsMaster, OwnerWay, here, past, into, HoldsBy, HonestOwner}
use Rattle.owner_rules.specs.Theorems.{OwnerAnswer, broken, away, owned, faulty}
use Rattle.owner_rules.proofs.Steps.{no_header_law, too_deep_law, too_large, in_header, in_payload, in_master_law, behind}
use Rattle.owner_rules.proofs.Walking.{inside}
use Rattle.owner_rules.proofs.Asked.{owner_broken, owner_outside, owner_walks, chain_long, chain_owner}
use Rattle.owner_rules.proofs.Asked.{told_refused}
use Rattle.owner_rules.proofs.Headers.{either, at_header}
use Rattle.std.proofs.Common.{Result, Err}
use Rattle.owner_rules.specs.declared.owner.Owner.{Owner}

module _ (live : Bool) (s : List ℕ) (x : ℕ) where
  -- An element that holds the address, and the way to it from a place.
  record OwnedFrom (depth parent at left : ℕ) (o : Owned) : Type 0 where
    under : ℕ
    last : ℕ
    way :
        OwnerWay live s x depth parent at left o.masters o.address
        (to_owner live under (depth + length o.masters) last)
    low : depth + length o.masters < depths
    head : Header
    stands : element_header live s o.address ≡ heading head
    fits : whole_of head ≤ last
    holds : HoldsBy o.side under o.address head x

  -- What the walk comes to from a place.
  abbrev From : (depth parent at left : ℕ) → ℕ → Errand → Type 0
  From depth parent at left a e = (masters : List ℕ) × OwnerWay live s x depth parent at left masters a e

  abbrev Shows : (depth parent at left : ℕ) → Reply Owned → Type 0
  Shows depth parent at left (accepted o) = OwnedFrom depth parent at left o
  Shows depth parent at left (refusal e) = FaultThere s (From depth parent at left) e

  module _ (depth parent at left : ℕ) (h : Header) (q : element_header live s at ≡ heading h) (d : depth < depths)
      (l : whole_of h ≤ left)
    where
      -- The element at hand holds the address.
      shows_own : (p : Side) → at ≤ x → x < at + left → HoldsBy p parent at h x → Shows depth parent at left (own p at)
      shows_own p low high k =
          let e : depth ≡ depth + 0 = omega arith in
          record {
            under = parent;
            last = left;
            way =
                subst (λ (n : ℕ). OwnerWay live s x depth parent at left [] at (to_owner live parent n left)) e
                (here depth parent at left low high);
            low = omega arith;
            head = h;
            stands = q;
            fits = l;
            holds = k;
          }

      -- What is shown behind an element is shown from it.
      shows_past : at + whole_of h ≤ x → (r : Reply Owned) → Shows depth parent (at + whole_of h) (left - whole_of h) r
          → Shows depth parent at left r
      shows_past b (accepted o) k = record {
        under = k.under;
        last = k.last;
        way = past depth parent at left o.masters o.address _ h q d l b k.way;
        low = k.low;
        head = k.head;
        stands = k.stands;
        fits = k.fits;
        holds = k.holds;
      }
      shows_past b (refusal e) k = record {
        errand = k.errand;
        reached = (
          k.reached.0,
          past depth parent at left k.reached.0 e.address k.errand h q d l b
              k.reached.1,
        );
        fault = k.fault;
      }

      -- What is shown inside a master is shown from it.
      shows_into : at + h.length ≤ x → x < at + whole_of h → IsMaster h parent → (r : Reply Owned)
          → Shows (depth + 1) h.id (at + h.length) h.size r → Shows depth parent at left (in_master at r)
      shows_into a b m (accepted o) k =
          let n = length o.masters in
          let e : depth + 1 + n ≡ depth + suc n = omega arith in
          let low = k.low in
          record {
            under = k.under;
            last = k.last;
            way =
                into depth parent at left o.masters o.address _ h q d l a b m
                (subst
                (λ (z : ℕ).
                OwnerWay live s x (depth + 1) h.id (at + h.length) h.size o.masters o.address
                (to_owner live k.under z k.last))
                e k.way);
            low = omega arith;
            head = k.head;
            stands = k.stands;
            fits = k.fits;
            holds = k.holds;
          }
      shows_into a b m (refusal e) k = record {
        errand = k.errand;
        reached = (
          at ∷ k.reached.0,
          into depth parent at left k.reached.0 e.address k.errand h q d l a b m
              k.reached.1,
        );
        fault = k.fault;
      }

  -- The element at hand is at fault.
  shows_fault : (depth parent at left : ℕ) (c : Cause) → at ≤ x → x < at + left
      → Fault s at (to_owner live parent depth left) c → Shows depth parent at left (refusal (because c at))
  shows_fault depth parent at left c low high f =
      record { errand = to_owner live parent depth left; reached = ([], here depth parent at left low high); fault = f }

  shows : (most depth parent at left : ℕ) → left ≤ most → at ≤ x → x < at + left → depth ≤ depths
      → Shows depth parent at left (owner_at live s x most depth parent at left)
  shows zero depth parent at left m low high few = absurd (omega arith)
  shows (suc most) depth parent at left m low high few =
      at_header live s x depth parent at left
      (λ c q.
      told (no_header_law live s x most depth parent at left c q)
      (shows_fault depth parent at left c low high
      (step_fault live s at (to_owner live parent depth left) refl (λ h k. k) c q)))
      (λ h q d.
      told (too_deep_law live s x most depth parent at left h q d)
      (let z : depths ≡ depth = omega arith in
      shows_fault depth parent at left TooDeep low high
      let (stands, known) = of_taken live (header_of (drop at s)) h q in
      (subst (λ (j : ℕ). Deeper s at (to_owner live parent j left)) z
      (deeper_asked live parent left (h, stands, known, tt)))))
      (λ h q d l.
      told (too_large live s x most depth parent at left h q d l)
      (let (stands, known) = of_taken live (header_of (drop at s)) h q in
      shows_fault depth parent at left Overrun low high (larger_asked live parent depth left d (h, stands, known, l))))
      (λ h q d l a.
      told (in_header live s x most depth parent at left h q d l a)
      (shows_own depth parent at left h q d l header low high (low, a)))
      (λ h q d l a b k.
      told (in_payload live s x most depth parent at left h q d l a b k)
      (shows_own depth parent at left h q d l payload low high (a, b, k)))
      (λ h q d l a b k.
      let one = (header_inside s at h (taken_there live s at h q)).0 in
      told (in_master_law live s x most depth parent at left h q d l a b k)
      (shows_into depth parent at left h q d l a b k
      (owner_at live s x most (depth + 1) h.id (at + h.length) h.size)
      (shows most (depth + 1) h.id (at + h.length) h.size (omega arith) a (omega arith) (omega arith))))
      (λ h q d l a b.
      let one = (header_inside s at h (taken_there live s at h q)).0 in
      told (behind live s x most depth parent at left h q d l a b)
      (shows_past depth parent at left h q d l b
      (owner_at live s x most depth parent (at + whole_of h) (left - whole_of h))
      (shows most depth parent (at + whole_of h) (left - whole_of h) (omega arith) b (omega arith) few)))
    where
      told : {r : Reply Owned} → owner_at live s x (suc most) depth parent at left ≡ r → Shows depth parent at left r
          → Shows depth parent at left (owner_at live s x (suc most) depth parent at left)
      told e k = subst (Shows depth parent at left) (sym e) k

-- ---- the theorem

module _ (live : Bool) (s : List ℕ) (start size parent x : ℕ) (r : Result Owner Refusal) where
  abbrev Answered : Type 0
  Answered = OwnerAnswer live s start size parent x r

  walked : allowed s start 0 ≡ true → within start size x ≡ true → (o : Reply Owned)
      → Shows live s x 0 parent start size o → r ≡ owner_reply o → Answered
  walked a w (accepted o) k e =
      let z : 0 + length o.masters ≡ length o.masters = zero-add (length o.masters) in
      let low = k.low in
      owned o
      (record {
        arguments = a;
        inside = w;
        under = k.under;
        left = k.last;
        way =
            subst
            (λ (n : ℕ).
            OwnerWay live s x 0 parent start size o.masters o.address (to_owner live k.under n k.last)) z
            k.way;
        low = omega arith;
        head = k.head;
        stands = k.stands;
        fits = k.fits;
        holds = k.holds;
      })
      e
  walked a w (refusal e) k i = faulty e a w k i

  by_tests : r ≡ owner_reply (owner_of live s start size parent x) → (a : Bool) → allowed s start 0 ≡ a
      → (w : Bool) → within start size x ≡ w → Answered
  by_tests p false i w j =
      broken i (p ∙ ap owner_reply (owner_broken live s start size parent x i))
  by_tests p true i false j =
      away i j (p ∙ ap owner_reply (owner_outside live s start size parent x i j))
  by_tests p true i true j =
      let (low, high) = inside start size x j in
      walked i j (owner_at live s x size 0 parent start size)
      (shows live s x size 0 parent start size (omega arith) low high (omega arith))
      (p ∙ ap owner_reply (owner_walks live s start size parent x i j))

pub owner_answers : (live : Bool) (s : List ℕ) (start size parent x : ℕ) (r : Result Owner Refusal)
    → OwnerPromise live s start size parent x r → OwnerAnswer live s start size parent x r
owner_answers live s start size parent x r p =
    by_tests live s start size parent x r p.reply (allowed s start 0) refl (within start size x) refl

-- ---- refusals alone

module _ (live : Bool) (s : List ℕ) (start size parent x : ℕ) where
  -- 14 and 15 are of what the caller gave.
  caller_14 : HonestOwner live s start size parent x bad_argument
  caller_14 = callers (inl refl) refl

  caller_15 : HonestOwner live s start size parent x outside
  caller_15 = callers (inr refl) refl

  pub owner_honest : (e : Refusal) → owner_of live s start size parent x ≡ refusal e
      → HonestOwner live s start size parent x e
  owner_honest e q =
      by (owner_answers live s start size parent x (Err e) (record { reply = sym (ap owner_reply q) }))
    where
      by : OwnerAnswer live s start size parent x (Err e) → HonestOwner live s start size parent x e
      by (owned o k i) =
          let w = told_refused (accepted o) e i in
          let z : ◌≡◌ {A = ℕ} 0 1 = cc in absurd (let y : ⊥ = omega arith in y)
      by (broken a i) = let j : bad_argument ≡ e = cc in subst (HonestOwner live s start size parent x) j caller_14
      by (away a w i) = let j : outside ≡ e = cc in subst (HonestOwner live s start size parent x) j caller_15
      by (faulty e' a w k i) = let j : e' ≡ e = cc in subst (HonestOwner live s start size parent x) j (there k)

  pub chain_honest : (links : ℕ) (e : Refusal) → chain_of live s start size parent x links ≡ refusal e
      → HonestOwner live s start size parent x e
  chain_honest links e q =
      either most_links links
      (λ l.
      let k = chain_long live s start size parent x links l in
      subst (HonestOwner live s start size parent x) (same (sym k ∙ q)) caller_14)
      (λ l. owner_honest e (sym (chain_owner live s start size parent x links l) ∙ q))
    where
      same : {a b : Refusal} → ◌≡◌ {A = Reply Owned} (refusal a) (refusal b) → a ≡ b
      same i = cc
