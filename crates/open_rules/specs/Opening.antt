-- All parts of a recording (document 02, C-14): those that are met before the first seek head, in file order, the last
-- of each; then those that the heads name, in their order. It is the walk, the chain of heads and the look-up of the
-- search.
use Rattle.std.specs.Prelude.{ℕ, List, [], ◌∷◌, Bool, cond, eqb}
use Rattle.refusals.specs.declared.refusal.Refusal.{Refusal}
use Rattle.header.specs.declared.cursor.Headed.{Headed}
use Rattle.kinds.specs.Kinds.{member}
use Rattle.elements_rules.specs.Forest.{count}
use Rattle.walks_rules.specs.Answers.{on_header}
use Rattle.walks_rules.specs.Walk.{Visit, ends, over, Walk}
use Rattle.walks_rules.specs.Endings.{walk_from}
use Rattle.seekhead_rules.specs.Seeks.{seek_head_id}
use Rattle.seekhead_rules.specs.Table.{latest}
use Rattle.seekchain_rules.specs.Answers.{on_outcome}
use Rattle.seekchain_rules.specs.Heads.{Heads, Chain, chained, broken, linked_heads}
use Rattle.seekchain_rules.specs.Lookup.{Lookup, part_at}
use Rattle.seekchain_rules.specs.Lookup.{found as found_at, absent as absent_at, stopped as stopped_at}
use Rattle.segments_rules.specs.Segment.{segment_of, stretch_of, within_segment, part_ids}
use Rattle.open_rules.specs.Parts.{id_of, which_of, order, no_parts, placed, found_part}
use Rattle.open_rules.specs.Tables.{Sizes, part_read}
use Rattle.open_rules.specs.declared.parts.Which.{Which}
use Rattle.open_rules.specs.declared.parts.Parts.{Parts}

-- What the call comes to: the parts, and the addresses of the heads that were read; or a refusal.
pub data Opening : Type 0 where
  read : Parts → (heads : List ℕ) → Opening
  refused : Refusal → Opening

module _ (live : Bool) (s : List ℕ) (n : Sizes) where
  -- A part that is read: its refusal ends the call.
  abbrev pub taken : {A : Type 0} → Which → Headed → Parts → (Refusal → A) → (Parts → A) → A
  taken which e ps stop next =
      on_outcome (part_read live s n which e.payload.at e.header.size) stop (λ f.
      next (placed ps which (found_part e.payload.at e.header.size (count f))))

  -- ---- after a seek head

  abbrev pub on_lookup : Lookup → (Headed → Opening) → Opening → Opening
  on_lookup (found_at e heads) one none = one e
  on_lookup (absent_at heads) one none = none
  on_lookup (stopped_at e) one none = refused e

  abbrev pub on_chain : Chain → (Heads → Opening) → Opening
  on_chain (chained heads) next = next heads
  on_chain (broken e) next = refused e

  -- The parts of a list in turn, by the entries of all heads: 8, header, 17, 9, then the part is read. One without an
  -- entry stands as it was met.
  unfoldable pub sought_from : (start : ℕ) → Heads → List Which → Parts → Opening
  sought_from start heads [] ps = read ps heads.addresses
  sought_from start heads (which ∷ more) ps =
      on_lookup (part_at live s (id_of which) start heads.addresses (latest (id_of which) heads.entries))
      (λ e. taken which e ps refused (sought_from start heads more))
      (sought_from start heads more ps)

  -- All of them, when all linked heads were read.
  unfoldable pub by_heads_all : (start : ℕ) (first : Headed) → Parts → Opening
  by_heads_all start first ps =
      on_chain (linked_heads live s start first) (λ heads. sought_from start heads order ps)

  -- ---- before it

  -- What a child of the segment does: the first seek head leads to the rest, a part is read, anything else is passed
  -- over.
  unfoldable pub visit : (segment : Headed) → Parts → Headed → Visit Parts Opening
  visit segment ps e =
      cond (eqb e.header.id seek_head_id) (ends (by_heads_all segment.payload.at e ps))
      (cond (member e.header.id part_ids) (taken (which_of e.header.id) e ps (λ r. ends (refused r)) over)
      (over ps))

  abbrev pub opening : (segment : Headed) → Walk Parts Opening
  opening segment = record { visit = visit segment; ended = λ at ps. read ps []; stop = refused }

  -- The children from an address on. The overrun rule is that of the search (`within_segment`): a part that was read is
  -- passed over too, so that it is 3 if it is larger than what was left of the segment.
  abbrev pub children_from : (segment : Headed) (at : ℕ) → Parts → Opening
  children_from segment at ps =
      walk_from live s (stretch_of live s segment) (within_segment live segment (opening segment)) at ps

  -- All of them.
  unfoldable pub whole_of : Opening
  whole_of = on_header (segment_of live s) refused (λ segment. children_from segment segment.payload.at no_parts)
