-- Whose byte is this? (document 02, C-16; C-18): headers are read from the front of a master, siblings are skipped by
-- their size, and the way leads down only into the one that holds the address. No body is looked at.
use Rattle.std.specs.Prelude.{ℕ, zero, suc, ◌+◌, ◌-◌, List, [], ◌∷◌, ◌++◌, Bool, cond, not, ltb, leb, eqb}
use Rattle.refusals.specs.Refusals.{because, overrun, too_deep, bad_argument, outside}
use Rattle.refusals.specs.Reply.{Reply, accepted, refusal}
use Rattle.refusals.specs.declared.refusal.Refusal.{Refusal}
use Rattle.header.specs.Header.{Heading, heading}
use Rattle.header.specs.Header.{refused as refused_header}
use Rattle.header.specs.declared.cursor.Header.{Header}
use Rattle.kinds.specs.Kinds.{number_of, kind_under}
use Rattle.elements_rules.specs.Reading.{element_header, depths}
use Rattle.elements_rules.specs.Holds.{within}
use Rattle.elements_rules.specs.Promise.{allowed}

-- The side of an element that holds an address.
pub data Side : Type 0 where
  header : Side
  payload : Side

-- Whose byte it is: which side of an element holds it, where the element's header is, and where the headers of the
-- masters around it are, the outermost first.
pub record Owned : Type 0 where
  pub side : Side
  pub address : ℕ
  pub masters : List ℕ

-- The chain that leads to the byte: the masters, and the element itself.
abbrev pub chain_to : Owned → List ℕ
chain_to o = o.masters ++ (o.address ∷ [])

-- ---- one answer after another

-- What follows a header that was read at an address; one that is refused is refused there.
abbrev pub on_heading : ℕ → Heading → (Header → Reply Owned) → Reply Owned
on_heading at (heading h) next = next h
on_heading at (refused_header cause) next = refusal (because cause at)

-- A refusal where the test holds, else what follows.
abbrev pub refuse_if : Bool → Refusal → Reply Owned → Reply Owned
refuse_if b e next = cond b (refusal e) next

-- What was found in a master whose header is there.
abbrev pub in_master : ℕ → Reply Owned → Reply Owned
in_master at (accepted o) = accepted (record { side = o.side; address = o.address; masters = at ∷ o.masters })
in_master at (refusal e) = refusal e

-- ---- the question

-- How many bytes an element takes: header and payload.
abbrev pub whole_of : Header → ℕ
whole_of h = h.length + h.size

abbrev pub is_master : Header → (parent : ℕ) → Bool
is_master h parent = eqb (number_of (kind_under h.id parent)) 1

-- An element that holds the address itself.
abbrev pub own : Side → ℕ → Reply Owned
own side at = accepted (record { side = side; address = at; masters = [] })

-- In a mode, of a recording and an address.
module _ (live : Bool) (s : List ℕ) (x : ℕ) where
  -- The element at a place, which has that depth and stands under that parent id, with so many bytes left in its
  -- master. The order: header; 17 in live mode if its size is unknown; 12; 3 if it is larger than what is left; then
  -- whether the address is in its header, in its payload, or behind it. Each header takes a byte at least: `most`
  -- bounds how many are read. That it suffices where the address is in the payload is part of a theorem
  -- (`OwnerExactly`).
  unfoldable pub owner_at : (most depth parent at left : ℕ) → Reply Owned
  owner_at zero depth parent at left = refusal outside
  owner_at (suc most) depth parent at left =
      on_heading at (element_header live s at) (λ h.
      refuse_if (leb depths depth) (too_deep at)
      (refuse_if (ltb left (whole_of h)) (overrun at)
      (cond (ltb x (at + h.length)) (own header at)
      (cond (ltb x (at + whole_of h))
      (cond (is_master h parent)
      (in_master at (owner_at most (depth + 1) h.id (at + h.length) h.size))
      (own payload at))
      (owner_at most depth parent (at + whole_of h) (left - whole_of h))))))

-- 14; then 15 for an address outside the payload that the caller named; then the walk, from depth 0 on.
unfoldable pub owner_of : (live : Bool) → List ℕ → (start size parent x : ℕ) → Reply Owned
owner_of live s start size parent x =
    refuse_if (not (allowed s start 0)) bad_argument
    (refuse_if (not (within start size x)) outside
    (owner_at live s x size 0 parent start size))

-- The most links of a chain: one for each depth.
abbrev pub most_links : ℕ
most_links = depths

-- The question for the chain, into so many numbers: 14 also for more than a chain can have.
unfoldable pub chain_of : (live : Bool) → List ℕ → (start size parent x links : ℕ) → Reply Owned
chain_of live s start size parent x links =
    refuse_if (ltb most_links links) bad_argument (owner_of live s start size parent x)
