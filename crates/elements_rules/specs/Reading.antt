-- How elements are read (document 01, Element table; document 02, C-18): an element holds a body, and a master's body
-- holds elements, read until its size is used up.
use Rattle.std.specs.Prelude.{ℕ, zero, suc, ◌+◌, ◌-◌, List, Bool, true, false, cond, ◌&&◌, drop, ltb, leb, eqb}
use Rattle.header.specs.Header.{Heading, heading, header_of}
use Rattle.header.specs.Header.{refused as refused_header}
use Rattle.refusals.specs.Refusals.{because, overrun, too_deep, no_free_row}
use Rattle.header.specs.Reads.{header_read}
use Rattle.header.specs.declared.cursor.Header.{Header}
use Rattle.refusals.specs.declared.refusal.Cause.TheVariants.{UnknownSize}
use Rattle.refusals.specs.declared.refusal.Refusal.{Refusal}
use Rattle.sizes.specs.Unknown.{unknown}
use Rattle.kinds.specs.Kinds.{kind_under}
use Rattle.bodies_rules.specs.Bodies.{Told, body, body_of}
use Rattle.bodies_rules.specs.Bodies.{refused as refused_body}
use Rattle.bodies_rules.specs.declared.body.Body.TheVariants.{Value, Master}
use Rattle.elements_rules.specs.Forest.{Element, Forest, none, node, span, count, join}
use Rattle.elements_rules.specs.declared.row.Mode.{Mode}
use Rattle.std.specs.Prelude.{Result}
use Rattle.header.specs.declared.cursor.Headed.{Headed}

-- What was read, or why reading stopped.
pub data Outcome : Type 0 where
  done : Forest → Outcome
  refused : Refusal → Outcome

-- What follows elements that were read; nothing follows a refusal.
abbrev pub and_then : Outcome → (Forest → Outcome) → Outcome
and_then (done f) next = next f
and_then (refused e) next = refused e

-- Elements in front of those that were read.
abbrev pub prepend : Forest → Outcome → Outcome
prepend f (done g) = done (join f g)
prepend f (refused e) = refused e

-- An element over the children that were read.
abbrev pub above : Element → Outcome → Outcome
above e (done kids) = done (node e kids none)
above e (refused r) = refused r

-- A refusal where the test holds, else what follows.
unfoldable pub refuse_if : Bool → Refusal → Outcome → Outcome
refuse_if true e o = refused e
refuse_if false e o = o

-- A header as a mode takes it: in live mode 17 where its size is unknown (document 02, C-18).
abbrev pub taken : (live : Bool) → Heading → Heading
taken live (heading h) = cond (live && unknown h) (refused_header UnknownSize) (heading h)
taken live (refused_header cause) = refused_header cause

-- The header of an element at a place: the one step by which the element rules read a header.
abbrev pub element_header : (live : Bool) → List ℕ → ℕ → Heading
element_header live s at = taken live (header_of (drop at s))

-- The same as the code tells it.
abbrev pub element_header_read : (live : Bool) → List ℕ → ℕ → Result Headed Refusal
element_header_read live s at = header_read at (element_header live s at)

-- What follows a header that was read at an address; one that is refused is refused there.
abbrev pub headed : ℕ → Heading → (Header → Outcome) → Outcome
headed at (heading h) next = next h
headed at (refused_header cause) next = refused (because cause at)

-- What a body holds: a master its elements, a value none. One that is refused is refused at its header's address.
abbrev pub held : ℕ → Told → Outcome → Outcome
held at (body Master) elements = elements
held at (body (Value v)) elements = done none
held at (refused_body cause) elements = refused (because cause at)

-- Rows are kept, and the table has none free.
unfoldable pub full : Mode → ℕ → ℕ → Bool
full mode cap n = mode.keep && leb cap n

-- Elements one after another at a place, until the bytes that are left are used up; n rows stand before them. `read`
-- reads one of them. Each takes a byte at least: `most` bounds how many there are.
unfoldable pub siblings : (read : ℕ → ℕ → Outcome) → (most at left n : ℕ) → Outcome
siblings read zero at left n = done none
siblings read (suc most) at left n =
    cond (eqb left 0) (done none)
    (and_then (read at n) (λ f.
    refuse_if (ltb left (span f)) (overrun at)
    (prepend f (siblings read most (at + span f) (left - span f) (n + count f)))))

abbrev pub element_of : ℕ → Header → Element
element_of parent h = record { header = h; kind = kind_under h.id parent }

-- A read's direct rows have depth 0; the deepest row has depth 15.
abbrev pub depths : ℕ
depths = 16

-- Of a recording, in a mode, with room for `cap` rows.
module _ (s : List ℕ) (mode : Mode) (cap : ℕ) where
  -- One element at a place, under a parent id, with n rows taken; `levels` tells how many depths are left. The order:
  -- header; 17; 12; 13; body.
  unfoldable pub element : (levels parent at n : ℕ) → Outcome
  element zero parent at n = headed at (element_header mode.live s at) (λ h. refused (too_deep at))
  element (suc levels) parent at n =
      headed at (element_header mode.live s at) (λ h.
      refuse_if (full mode cap n) (no_free_row at)
      (above (element_of parent h)
      (held at (body_of s (at + h.length) h.size (kind_under h.id parent))
      (siblings (element levels h.id) h.size (at + h.length) h.size (n + 1)))))

  -- The elements of a master's payload, which have that depth.
  unfoldable pub master_body : (depth parent at size n : ℕ) → Outcome
  master_body depth parent at size n = siblings (element (depths - depth) parent) size at size n
