-- How the question comes to an element, and when that holds the address: the relation that the theorems on `owner` go
-- by (document 02, C-16).
use Rattle.std.specs.Prelude.{ℕ, ◌+◌, ◌-◌, ◌≤◌, ◌<◌, ◌≡◌, List, [], ◌∷◌, Bool, true, length}
use Rattle.refusals.specs.declared.refusal.Refusal.{Refusal}
use Rattle.header.specs.Header.{heading}
use Rattle.header.specs.declared.cursor.Header.{Header}
use Rattle.kinds.specs.Kinds.{number_of, kind_under}
use Rattle.elements_rules.specs.Reading.{element_header, depths}
use Rattle.elements_rules.specs.Holds.{within}
use Rattle.elements_rules.specs.Promise.{allowed}
use Rattle.elements_rules.specs.Faults.{Errand, to_owner, Honest}
use Rattle.owner_rules.specs.Owner.{Side, header, payload, Owned, whole_of}

abbrev pub IsMaster : Header → (parent : ℕ) → Type 0
IsMaster h parent = number_of (kind_under h.id parent) ≡ 1

-- The way to an element, from the elements at a place that have that depth, that parent id and so many bytes left. What
-- it went past ends at the address or before it; what it went into is a master whose payload holds the address. Each of
-- these has a header, in live mode of known size, is not too deep, and is not larger than what was left. `masters` are
-- those that it went into.
-- Where it ends, the address is still ahead: so it leads nowhere if the address is not in the payload.
pub data OwnerWay
    (live : Bool) (s : List ℕ) (x : ℕ) : (depth parent at left : ℕ) → (masters : List ℕ) → ℕ → Errand → Type 0 where
  here :
      (depth parent at left : ℕ) → at ≤ x → x < at + left
      → OwnerWay live s x depth parent at left [] at (to_owner live parent depth left)
  past :
      (depth parent at left : ℕ) (masters : List ℕ) (a : ℕ) (e : Errand) (h : Header)
      → element_header live s at ≡ heading h → depth < depths → whole_of h ≤ left → at + whole_of h ≤ x
      → OwnerWay live s x depth parent (at + whole_of h) (left - whole_of h) masters a e
      → OwnerWay live s x depth parent at left masters a e
  into :
      (depth parent at left : ℕ) (masters : List ℕ) (a : ℕ) (e : Errand) (h : Header)
      → element_header live s at ≡ heading h → depth < depths → whole_of h ≤ left
      → at + h.length ≤ x → x < at + whole_of h → IsMaster h parent
      → OwnerWay live s x (depth + 1) h.id (at + h.length) h.size masters a e
      → OwnerWay live s x depth parent at left (at ∷ masters) a e

-- An element under a parent id, with its header at an address, holds x by that side: its header, or its payload if it
-- is no master there.
abbrev pub HoldsBy : Side → (parent at : ℕ) → Header → (x : ℕ) → Type 0
HoldsBy header parent at h x = (at ≤ x) × (x < at + h.length)
HoldsBy payload parent at h x = (at + h.length ≤ x) × (x < at + whole_of h) × (IsMaster h parent → ⊥)

-- It holds the address, and the way leads there: a header stands at the address that is named, in live mode of known
-- size, under the chain of masters that is named, not too deep and not larger than what was left.
pub record OwnedBy (live : Bool) (s : List ℕ) (start size parent x : ℕ) (o : Owned) : Type 0 where
  pub arguments : allowed s start 0 ≡ true
  pub inside : within start size x ≡ true
  -- Its parent id, and what its master had left.
  pub under : ℕ
  pub left : ℕ
  pub way :
      OwnerWay live s x 0 parent start size o.masters o.address (to_owner live under (length o.masters) left)
  pub low : length o.masters < depths
  pub head : Header
  pub stands : element_header live s o.address ≡ heading head
  pub fits : whole_of head ≤ left
  pub holds : HoldsBy o.side under o.address head x

-- What the question comes to, from the payload that the caller named.
abbrev pub OwnerComes : (live : Bool) → List ℕ → (start size parent x : ℕ) → ℕ → Errand → Type 0
OwnerComes live s start size parent x a e = (masters : List ℕ) × OwnerWay live s x 0 parent start size masters a e

-- A refusal of the question: a fault on the way, or 14 or 15 at 0.
abbrev pub HonestOwner : (live : Bool) → List ℕ → (start size parent x : ℕ) → Refusal → Type 0
HonestOwner live s start size parent x e = Honest s (OwnerComes live s start size parent x) e
