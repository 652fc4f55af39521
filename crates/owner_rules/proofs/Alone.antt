-- Only headers on the way count, as the mode takes them (`HeadersAlone`). Assumes nothing.
use Prim.Native.Nat.{ℕ, zero, suc, ◌+◌, ◌-◌, ◌≤◌, ◌<◌}
use mathlib.Core.Path.{◌≡◌, refl, sym, ap, ◌∙◌}
use mathlib.Core.List.{List, [], ◌∷◌}
use mathlib.Core.Bool.{Bool, true, false}
use native.Mathlib.Omega.{arith}
use Rattle.elements_rules.specs.Reading.{element_header}
use Rattle.elements_rules.specs.Holds.{within}
use Rattle.elements_rules.specs.Faults.{Errand}
use Rattle.elements_rules.specs.Promise.{allowed}
use Rattle.owner_rules.specs.Owner.{in_master, whole_of, owner_at, owner_of}
use Rattle.owner_rules.specs.Promise.{owner_reply}
use Rattle.owner_rules.specs.Way.{OwnerWay, here, past, into}
use Rattle.owner_rules.specs.Theorems.{HeadersAlone}
use Rattle.owner_rules.proofs.Steps.{no_header_law, too_deep_law, too_large, in_header, in_payload, in_master_law, behind}
use Rattle.owner_rules.proofs.Walking.{inside}
use Rattle.owner_rules.proofs.Asked.{owner_outside, owner_walks}
use Rattle.owner_rules.proofs.Headers.{at_header}

-- Of two recordings, each in a mode.
module _ (live live' : Bool) (s s' : List ℕ) (x : ℕ) where
  -- The headers on the way from a place are the same in both.
  abbrev pub Same : (depth parent at left : ℕ) → Type 0
  Same depth parent at left =
      (masters : List ℕ) (a : ℕ) (e : Errand) → OwnerWay live s x depth parent at left masters a e
      → element_header live' s' a ≡ element_header live s a

  same_owner : (most depth parent at left : ℕ) → at ≤ x → x < at + left → Same depth parent at left
      → owner_at live s x most depth parent at left ≡ owner_at live' s' x most depth parent at left
  unfolding owner_at
  same_owner zero depth parent at left low high k = refl
  same_owner (suc most) depth parent at left low high k =
      let i = k [] at _ (here depth parent at left low high) in
      at_header live s x depth parent at left
      (λ c q.
      no_header_law live s x most depth parent at left c q
      ∙ sym (no_header_law live' s' x most depth parent at left c (i ∙ q)))
      (λ h q d.
      too_deep_law live s x most depth parent at left h q d
      ∙ sym (too_deep_law live' s' x most depth parent at left h (i ∙ q) d))
      (λ h q d l.
      too_large live s x most depth parent at left h q d l
      ∙ sym (too_large live' s' x most depth parent at left h (i ∙ q) d l))
      (λ h q d l a.
      in_header live s x most depth parent at left h q d l a
      ∙ sym (in_header live' s' x most depth parent at left h (i ∙ q) d l a))
      (λ h q d l a b m.
      in_payload live s x most depth parent at left h q d l a b m
      ∙ sym (in_payload live' s' x most depth parent at left h (i ∙ q) d l a b m))
      (λ h q d l a b m.
      in_master_law live s x most depth parent at left h q d l a b m
      ∙ ap (in_master at)
      (same_owner most (depth + 1) h.id (at + h.length) h.size a (omega arith)
      (λ ms y e w. k (at ∷ ms) y e (into depth parent at left ms y e h q d l a b m w)))
      ∙ sym (in_master_law live' s' x most depth parent at left h (i ∙ q) d l a b m))
      (λ h q d l a b.
      behind live s x most depth parent at left h q d l a b
      ∙ same_owner most depth parent (at + whole_of h) (left - whole_of h) b (omega arith)
      (λ ms y e w. k ms y e (past depth parent at left ms y e h q d l b w))
      ∙ sym (behind live' s' x most depth parent at left h (i ∙ q) d l a b))

  -- Then the question has the same answer in both.
  pub same_answer : (start size parent : ℕ) → allowed s start 0 ≡ true → allowed s' start 0 ≡ true
      → Same 0 parent start size → owner_of live s start size parent x ≡ owner_of live' s' start size parent x
  same_answer start size parent a a' k = by (within start size x) refl
    where
      by : (w : Bool) → within start size x ≡ w
          → owner_of live s start size parent x ≡ owner_of live' s' start size parent x
      by true i =
          let (low, high) = inside start size x i in
          owner_walks live s start size parent x a i ∙ same_owner size 0 parent start size low high k
          ∙ sym (owner_walks live' s' start size parent x a' i)
      by false i =
          owner_outside live s start size parent x a i ∙ sym (owner_outside live' s' start size parent x a' i)

pub headers_alone : HeadersAlone
headers_alone live s s' start size parent x r r' a a' k p p' =
    p.reply ∙ ap owner_reply (same_answer live live s s' x start size parent a a' k) ∙ sym p'.reply
