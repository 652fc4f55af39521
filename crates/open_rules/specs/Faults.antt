-- How `open` comes to the address that its refusal names (document 02, C-12; C-14; C-18), and that the fault is there.
use Rattle.std.specs.Prelude.{ℕ, ◌-◌, ◌/◌, ◌<◌, ◌≡◌, List, [], ◌∷◌, ◌++◌, Bool, true, false, ◌&&◌, length}
use Rattle.refusals.specs.declared.refusal.Refusal.{Refusal}
use Rattle.header.specs.Reads.{behind}
use Rattle.header.specs.declared.cursor.Headed.{Headed}
use Rattle.sizes.specs.Unknown.{unknown}
use Rattle.kinds.specs.Kinds.{member}
use Rattle.elements_rules.specs.Forest.{Forest}
use Rattle.elements_rules.specs.Reading.{done}
use Rattle.elements_rules.specs.Rows.{width}
use Rattle.elements_rules.specs.Promise.{keeping}
use Rattle.elements_rules.specs.Faults.{Errand, to_step, to_pass, Honest, Comes}
use Rattle.walks_rules.specs.Step.{child_at}
use Rattle.walks_rules.specs.Endings.{end_of}
use Rattle.walks_rules.specs.declared.step.Stretch.TheVariants.{Sized, Endless}
use Rattle.seekhead_rules.specs.Seeks.{segment_id, seek_head_id}
use Rattle.seekhead_rules.specs.Table.{latest}
use Rattle.seekchain_rules.specs.Heads.{Heads, chained, linked_heads}
use Rattle.seekchain_rules.specs.Lookup.{Lookup, found, absent, part_at}
use Rattle.seekchain_rules.specs.Theorems.{IsAt}
use Rattle.seekchain_rules.specs.Faults.{HeadsCome}
use Rattle.segments_rules.specs.Segment.{segment_of, stretch_of, overruns, part_ids}
use Rattle.search_rules.specs.Faults.{Along, ToSegment, InUnknown}
use Rattle.open_rules.specs.Parts.{id_of, which_of, parent_of, order}
use Rattle.open_rules.specs.Tables.{Tables, Sizes, sizes_of, of, part_read}
use Rattle.open_rules.specs.Promise.{OpenPromise}
use Rattle.open_rules.specs.declared.parts.Which.{Which}
use Rattle.std.specs.Prelude.{Ok, Err, Some, None}

module _ (live : Bool) (s : List ℕ) (n : Sizes) where
  -- How the reader of a part's elements comes to one of them.
  abbrev pub PartComes : Which → Headed → ℕ → Errand → Type 0
  PartComes which e a x =
      Comes s (keeping live) (of n which / width) 0 (parent_of which) e.payload.at e.header.size 0 a x

  -- A part at an element was read whole.
  abbrev pub WasRead : Which → Headed → Type 0
  WasRead which e = (f : Forest) × (part_read live s n which e.payload.at e.header.size ≡ done f)

  -- A child of the segment that is passed over: no seek head, a part only if it was read, and it does not overrun the
  -- segment.
  pub record OpenedOver (segment e : Headed) : Type 0 where
    pub head : e.header.id ≡ seek_head_id → ⊥
    pub read : member e.header.id part_ids ≡ true → WasRead (which_of e.header.id) e
    pub within : overruns live segment e ≡ false

  -- The way over the segment's children.
  abbrev pub InOpen : Headed → ℕ → Type 0
  InOpen segment a = Along live s (stretch_of live s segment) (OpenedOver segment) segment.payload.at a

  -- Where a part is by the entries of all heads.
  abbrev pub place_of : (start : ℕ) → Heads → Which → Lookup
  place_of start heads which =
      part_at live s (id_of which) start heads.addresses (latest (id_of which) heads.entries)

  -- Parts that were sought: each has no entry, or was read.
  pub data SoughtPast (start : ℕ) (heads : Heads) (which : Which) : Type 0 where
    unnamed : (hs : List ℕ) → place_of start heads which ≡ absent hs → SoughtPast start heads which
    read_there :
        (e : Headed) (hs : List ℕ) → place_of start heads which ≡ found e hs → WasRead which e
        → SoughtPast start heads which

  unfoldable pub AllPast : (start : ℕ) → Heads → List Which → Type 0
  AllPast start heads [] = Unit
  AllPast start heads (which ∷ more) = SoughtPast start heads which × AllPast start heads more

  -- The parts before one in the order were sought.
  pub record Before (start : ℕ) (first : Headed) (which : Which) : Type 0 where
    pub earlier : List Which
    pub later : List Which
    pub ordered : order ≡ earlier ++ (which ∷ later)
    pub past : (heads : Heads) → linked_heads live s start first ≡ chained heads → AllPast start heads earlier

  -- What the call comes to: the header of an element of the file, before the segment or where none is left; a child of
  -- the segment, whose size is known or, in live mode, is not; what an element of unknown size holds that is passed
  -- over, before the segment or in it; an element of a part that is met; what the seek heads lead to, from the first
  -- on, which is such a child; an element of a part that is sought, when those before it in the order were.
  pub data OpenComes : ℕ → Errand → Type 0 where
    in_file : (a : ℕ) → ToSegment live s a → OpenComes a (to_step live)
    in_file_unknown :
        (at : ℕ) (e : Headed) (a : ℕ) → ToSegment live s at → child_at live s (Sized (length s)) at ≡ Ok (Some e)
        → (e.header.id ≡ segment_id → ⊥) → (live && unknown e.header) ≡ true → InUnknown s (length s) e a
        → (child_at true s (Endless e.header.id (length s)) a ≡ (Ok None) → ⊥)
        → OpenComes a (to_step true)
    in_segment :
        (segment : Headed) (a : ℕ) → segment_of live s ≡ Ok segment → (live && unknown segment.header) ≡ false
        → InOpen segment a → a < behind segment
        → OpenComes a (to_pass live (seek_head_id ∷ []) (behind segment - a))
    in_endless :
        (segment : Headed) (a : ℕ) → segment_of live s ≡ Ok segment → (live && unknown segment.header) ≡ true
        → InOpen segment a → (child_at live s (stretch_of live s segment) a ≡ (Ok None) → ⊥)
        → OpenComes a (to_step live)
    in_segment_unknown :
        (segment : Headed) (at : ℕ) (e : Headed) (a : ℕ) → segment_of live s ≡ Ok segment
        → InOpen segment at → child_at live s (stretch_of live s segment) at ≡ Ok (Some e)
        → OpenedOver segment e → (live && unknown e.header) ≡ true
        → InUnknown s (end_of (stretch_of live s segment)) e a
        → (child_at true s (Endless e.header.id (end_of (stretch_of live s segment))) a ≡ (Ok None) → ⊥)
        → OpenComes a (to_step true)
    in_met :
        (segment e : Headed) (a : ℕ) (x : Errand) → segment_of live s ≡ Ok segment
        → InOpen segment e.place.at → child_at live s (stretch_of live s segment) e.place.at ≡ Ok (Some e)
        → member e.header.id part_ids ≡ true
        → PartComes (which_of e.header.id) e a x → OpenComes a x
    from_heads :
        (segment first : Headed) (which : Which) (a : ℕ) (x : Errand) → segment_of live s ≡ Ok segment
        → InOpen segment first.place.at
        → child_at live s (stretch_of live s segment) first.place.at ≡ Ok (Some first)
        → IsAt s seek_head_id first.place.at first → Before segment.payload.at first which
        → HeadsCome live s (id_of which) segment.payload.at first a x
        → OpenComes a x
    in_sought :
        (segment first : Headed) (which : Which) (heads : Heads) (e : Headed) (hs : List ℕ) (a : ℕ) (x : Errand)
        → segment_of live s ≡ Ok segment → InOpen segment first.place.at
        → child_at live s (stretch_of live s segment) first.place.at ≡ Ok (Some first)
        → IsAt s seek_head_id first.place.at first → Before segment.payload.at first which
        → linked_heads live s segment.payload.at first ≡ chained heads
        → place_of segment.payload.at heads which ≡ found e hs
        → PartComes which e a x → OpenComes a x

-- `open` is refused for a fault that it comes to, at its address. It shuts out a call that names the segment where a
-- part overruns it, the head where its entry is stale, and one that goes on to a later part's fault.
abbrev pub OpenHonest : Type 0
OpenHonest =
    (live : Bool) (s : List ℕ) (t : Tables) (e : Refusal) (t' : Tables)
    → OpenPromise live s t (Err e) t' → Honest s (OpenComes live s (sizes_of t)) e
