-- What is proved of the definitions beside the contracts: the statements of the theorems.
use Rattle.std.specs.Prelude.{ℕ, ◌≡◌, List, [], Bool, length}
use Rattle.refusals.specs.Theorems.{Listed}
use Rattle.refusals.specs.declared.refusal.Refusal.{Refusal}
use Rattle.header.specs.declared.cursor.Headed.{Headed}
use Rattle.elements_rules.specs.Promise.{zeros, ReadPromise}
use Rattle.walks_rules.specs.Step.{child_at}
use Rattle.seekhead_rules.specs.Seeks.{seek_head_id}
use Rattle.seekchain_rules.specs.Theorems.{IsAt, GoodHeads, Named}
use Rattle.segments_rules.specs.Segment.{segment_of, stretch_of, met_from}
use Rattle.segments_rules.specs.declared.walk.Aim.TheVariants.{One}
use Rattle.segments_rules.specs.declared.walk.Met.TheVariants.{Head}
use Rattle.search_rules.specs.Part.{PartPromise}
use Rattle.search_rules.specs.Part.{parent_of as searched_under}
use Rattle.open_rules.specs.Parts.{id_of, parent_of, part_of, found_part}
use Rattle.open_rules.specs.Tables.{Tables, Sizes, sizes_of, of, zeroed}
use Rattle.open_rules.specs.Opening.{Opening, read, refused}
use Rattle.open_rules.specs.Promise.{open_of, OpenPromise}
use Rattle.open_rules.specs.declared.parts.Which.{Which}
use Rattle.open_rules.specs.declared.parts.Parts.{Parts}
use Rattle.std.specs.Prelude.{Result, Ok, Err, Some}
use Rattle.std.specs.Prelude.{Option, None}
use Rattle.search_rules.specs.declared.part.Part.{Part}

-- Any two replies and tables that the promise permits to one question are equal (document 01, Strength of the
-- promises). The numbers that stood in the lent tables do not matter, only how many there are.
abbrev pub OneOpen : Type 0
OneOpen =
    (live : Bool) (s : List ℕ) (t u : Tables) (r r' : Result (Parts × ℕ) Refusal) (t' u' : Tables)
    → sizes_of t ≡ sizes_of u
    → OpenPromise live s t r t' → OpenPromise live s u r' u' → (r ≡ r') × (t' ≡ u')

-- A refusal that the promise permits is one of the list (`Listed`).
abbrev pub OpenRefusesListed : Type 0
OpenRefusesListed =
    (live : Bool) (s : List ℕ) (t : Tables) (e : Refusal) (t' : Tables) → OpenPromise live s t (Err e) t'
    → Listed e

-- A refusal zeroes all five tables, the one of a broken length too; the table of an absent part is zeros. It shuts out
-- a call that leaves the parts in their tables which it read before it was refused.
pub record AllZeroed : Type 0 where
  pub refused :
      (live : Bool) (s : List ℕ) (t : Tables) (e : Refusal) (t' : Tables) → OpenPromise live s t (Err e) t'
      → t' ≡ zeroed (sizes_of t)
  pub absent :
      (live : Bool) (s : List ℕ) (t : Tables) (ps : Parts) (k : ℕ) (t' : Tables) → OpenPromise live s t (Ok (ps, k)) t'
      → (which : Which) → part_of ps which ≡ None → of t' which ≡ zeros (length (of t which))

-- Each found part is as the public read reads its payload under its parent id, so that every theorem on an accepted
-- read holds of it: its table loses nothing. It shuts out a table that still has rows of an earlier, longer part behind
-- the rows of the last one.
abbrev pub OpenIsRead : Type 0
OpenIsRead =
    (live : Bool) (s : List ℕ) (t : Tables) (ps : Parts) (k : ℕ) (t' : Tables) → OpenPromise live s t (Ok (ps, k)) t'
    → (which : Which) (at size rows : ℕ) → part_of ps which ≡ found_part at size rows
    → ReadPromise live s at size (parent_of which) (of t which) (Ok rows) (of t' which)

-- ---- the heads

-- The addresses of the heads of an accepted call.
unfoldable pub heads_of : Opening → List ℕ
heads_of (read ps heads) = heads
heads_of (refused e) = []

-- A seek head was read at each address, no address comes twice, there are at most 64, and the reply counts them.
pub record OpenHeads : Type 0 where
  pub good : (live : Bool) (s : List ℕ) (n : Sizes) → GoodHeads live s (heads_of (open_of live s n))
  pub counted :
      (live : Bool) (s : List ℕ) (t : Tables) (ps : Parts) (k : ℕ) (t' : Tables) → OpenPromise live s t (Ok (ps, k)) t'
      → k ≡ length (heads_of (open_of live s (sizes_of t)))

-- ---- what a found part is

-- A child of the segment with that id; or the element at the position that the last entry of its id names, in the chain
-- of heads from a child of the segment on that is a seek head.
pub data OpenWay
    (live : Bool) (s : List ℕ) (id : ℕ) (segment part : Headed) (heads : List ℕ) : Type 0 where
  met :
      IsAt s id part.place.at part → child_at live s (stretch_of live s segment) part.place.at ≡ Ok (Some part)
      → OpenWay live s id segment part heads
  named :
      (first : Headed) → IsAt s seek_head_id first.place.at first
      → child_at live s (stretch_of live s segment) first.place.at ≡ Ok (Some first)
      → Named live s id segment.payload.at first part heads
      → OpenWay live s id segment part heads

pub record OpenFoundBy (live : Bool) (s : List ℕ) (id at size : ℕ) (heads : List ℕ) : Type 0 where
  pub part : Headed
  pub payload : part.payload.at ≡ at
  pub sized : part.header.size ≡ size
  pub segment : Headed
  pub is_segment : segment_of live s ≡ Ok segment
  pub way : OpenWay live s id segment part heads

-- It shuts out a call that tells a stale entry's element, and one that tells another part's place.
abbrev pub OpenIsPart : Type 0
OpenIsPart =
    (live : Bool) (s : List ℕ) (t : Tables) (ps : Parts) (k : ℕ) (t' : Tables) → OpenPromise live s t (Ok (ps, k)) t'
    → (which : Which) (at size rows : ℕ) → part_of ps which ≡ found_part at size rows
    → OpenFoundBy live s (id_of which) at size (heads_of (open_of live s (sizes_of t)))

-- ---- beside the search

-- A part as the search tells it.
abbrev pub as_searched : Option Part → (heads : ℕ) → Result (Option Part × ℕ) Refusal
as_searched p heads = Ok (p, heads)

-- The segment's first seek head stands before any part of that id.
pub record HeadFirst (live : Bool) (s : List ℕ) (id : ℕ) : Type 0 where
  pub segment : Headed
  pub is_segment : segment_of live s ≡ Ok segment
  pub head : Headed
  pub is_first : met_from live s (One id) segment segment.payload.at ≡ Ok (Some (Head head))

-- Where `open` accepts and a head was reached, each of the four that the search knows and that was not met before that
-- head has the search's own reply and table. It shuts out a call that takes the first entry of an id, or that looks
-- behind the head.
abbrev pub OpenAgrees : Type 0
OpenAgrees =
    (live : Bool) (s : List ℕ) (t : Tables) (ps : Parts) (k : ℕ) (t' : Tables) → OpenPromise live s t (Ok (ps, k)) t'
    → (which : Which) (parent : ℕ) → searched_under (id_of which) ≡ Some parent → HeadFirst live s (id_of which)
    → PartPromise live s (id_of which) (of t which) (as_searched (part_of ps which) k) (of t' which)
