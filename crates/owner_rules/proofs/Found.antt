-- An element that holds the address, where the way leads to it, is found. Assumes nothing.
use Prim.Native.Nat.{ℕ, zero, suc, ◌+◌, ◌-◌, ◌≤◌, ◌<◌}
use mathlib.Core.Path.{◌≡◌, refl, sym, ap, ◌∙◌, subst}
use mathlib.Core.List.{List}
use mathlib.Core.Bool.{Bool}
use native.Mathlib.Omega.{arith}
use lib.ListN.{length}
use Rattle.refusals.specs.Reply.{accepted}
use Rattle.header.specs.Header.{heading}
use Rattle.header.specs.declared.cursor.Header.{Header}
use Rattle.header.proofs.Inside.{header_inside}
use Rattle.elements_rules.specs.Reading.{element_header, depths}
use Rattle.elements_rules.specs.Faults.{Errand, to_owner}
use Rattle.elements_rules.proofs.Parts.{taken_there}
use Rattle.owner_rules.specs.Owner.{Side, header, payload, Owned, in_master, whole_of, own, owner_at, owner_of}
use Rattle.owner_rules.specs.Way.{OwnerWay, here, past, into, HoldsBy, OwnedBy}
use Rattle.owner_rules.proofs.Steps.{in_header, in_payload, in_master_law, behind}
use Rattle.owner_rules.proofs.Walking.{inside}
use Rattle.owner_rules.proofs.Asked.{owner_walks}

module _ (live : Bool) (s : List ℕ) (x : ℕ) where
  -- The element at hand holds the address.
  own_found : (p : Side) (most depth parent at left : ℕ) (h : Header) → element_header live s at ≡ heading h
      → depth < depths → whole_of h ≤ left → HoldsBy p parent at h x
      → owner_at live s x (suc most) depth parent at left ≡ own p at
  own_found header most depth parent at left h q d l k = in_header live s x most depth parent at left h q d l k.1
  own_found payload most depth parent at left h q d l k =
      in_payload live s x most depth parent at left h q d l k.0 k.1 k.2

  -- It is found from wherever the way leads to it.
  way_found :
      (p : Side) (h : Header) (under last deep most depth parent at left : ℕ) (ms : List ℕ) (a : ℕ) (e : Errand)
      → OwnerWay live s x depth parent at left ms a e → e ≡ to_owner live under deep last
      → element_header live s a ≡ heading h → deep < depths → whole_of h ≤ last → HoldsBy p under a h x → left ≤ most
      → at ≤ x → x < at + left
      → owner_at live s x most depth parent at left ≡ accepted (record { side = p; address = a; masters = ms })
  way_found p h under last deep zero depth parent at left ms a e w i q d f k m low high = absurd (omega arith)
  way_found p h under last deep (suc most) depth parent at left _ _ _ (here _ _ _ _ _ _) i q d f k m low high =
      let same : parent ≡ under = cc in
      let depth_is : depth ≡ deep = cc in
      let left_is : left ≡ last = cc in
      own_found p most depth parent at left h q (omega arith) (omega arith)
      (subst (λ (u : ℕ). HoldsBy p u at h x) (sym same) k)
  way_found p h under last deep (suc most) depth parent at left ms a e (past _ _ _ _ _ _ _ g j c l b w) i q d f k m
      low high =
      let one = (header_inside s at g (taken_there live s at g j)).0 in
      behind live s x most depth parent at left g j c l (omega arith) b
      ∙ way_found p h under last deep most depth parent (at + whole_of g) (left - whole_of g) ms a e w i q d f k
      (omega arith) b (omega arith)
  way_found p h under last deep (suc most) depth parent at left _ a e (into _ _ _ _ ms _ _ g j c l b t n w) i q d f k
      m low high =
      let one = (header_inside s at g (taken_there live s at g j)).0 in
      in_master_law live s x most depth parent at left g j c l b t n
      ∙ ap (in_master at)
      (way_found p h under last deep most (depth + 1) g.id (at + g.length) g.size ms a e w i q d f k
      (omega arith) b (omega arith))

-- ---- the question

pub owned_found : (live : Bool) (s : List ℕ) (start size parent x : ℕ) (o : Owned)
    → OwnedBy live s start size parent x o → owner_of live s start size parent x ≡ accepted o
owned_found live s start size parent x o k =
    let (low, high) = inside start size x k.inside in
    owner_walks live s start size parent x k.arguments k.inside
    ∙ way_found live s x o.side k.head k.under k.left (length o.masters) size 0 parent start size
    o.masters o.address _ k.way refl k.stands k.low k.fits k.holds (omega arith) low high
