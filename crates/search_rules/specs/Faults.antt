-- How a search for a part comes to the address that its refusal names (document 02, C-12; C-18), and that the fault is
-- there.
use Rattle.std.specs.Prelude.{ℕ, ◌-◌, ◌/◌, ◌<◌, ◌≡◌, List, [], ◌∷◌, Bool, true, false, ◌&&◌, length}
use Rattle.refusals.specs.declared.refusal.Refusal.{Refusal}
use Rattle.header.specs.Reads.{behind}
use Rattle.header.specs.declared.cursor.Headed.{Headed}
use Rattle.sizes.specs.Unknown.{unknown}
use Rattle.elements_rules.specs.Rows.{width}
use Rattle.elements_rules.specs.Promise.{keeping}
use Rattle.elements_rules.specs.Faults.{Errand, to_step, to_pass, Honest, Comes}
use Rattle.walks_rules.specs.Step.{child_at}
use Rattle.walks_rules.specs.Endings.{within, pass_over, end_of}
use Rattle.walks_rules.specs.declared.step.Stretch.{Stretch}
use Rattle.walks_rules.specs.declared.step.Stretch.TheVariants.{Sized, Endless}
use Rattle.seekhead_rules.specs.Seeks.{segment_id, seek_head_id}
use Rattle.seekchain_rules.specs.Lookup.{found}
use Rattle.seekchain_rules.specs.Theorems.{IsAt}
use Rattle.seekchain_rules.specs.Faults.{HeadsCome}
use Rattle.segments_rules.specs.Segment.{segment_of, stretch_of, overruns, lookup_of}
use Rattle.search_rules.specs.Part.{parent_of, PartPromise}
use Rattle.std.specs.Prelude.{Result, Option, Ok, Some, None}
use Rattle.std.specs.Prelude.{Err}

-- A walk from a place on, by a step to each element and a way past it, comes to a place: over elements that are passed
-- over.
pub data Walks (step : ℕ → Result (Option Headed) Refusal) (pass : Headed → Result ℕ Refusal) (Over : Headed → Type 0) (from : ℕ) : ℕ → Type 0 where
  begun : Walks step pass Over from from
  passing :
      (to next : ℕ) (e : Headed) → Walks step pass Over from to → step to ≡ Ok (Some e) → Over e → pass e ≡ Ok next
      → Walks step pass Over from next

-- The same over a stretch of the recording.
abbrev pub Along : (live : Bool) → List ℕ → Stretch → (Over : Headed → Type 0) → (from : ℕ) → ℕ → Type 0
Along live s stretch Over from a = Walks (child_at live s stretch) (pass_over live s (end_of stretch)) Over from a

-- The way over the file's elements: those before the segment have another id.
abbrev pub ToSegment : (live : Bool) → List ℕ → ℕ → Type 0
ToSegment live s a = Along live s (Sized (length s)) (λ e. e.header.id ≡ segment_id → ⊥) 0 a

-- A child of the segment that is passed over: no seek head, not the part, and it does not overrun the segment.
pub record PassedOver (live : Bool) (part : ℕ) (segment e : Headed) : Type 0 where
  pub head : e.header.id ≡ seek_head_id → ⊥
  pub wanted : e.header.id ≡ part → ⊥
  pub within : overruns live segment e ≡ false

-- The way over the segment's children.
abbrev pub InSegment : (live : Bool) → List ℕ → (part : ℕ) → Headed → ℕ → Type 0
InSegment live s part segment a =
    Along live s (stretch_of live s segment) (PassedOver live part segment) segment.payload.at a

-- The way over what an element of unknown size holds, to its end.
abbrev pub InUnknown : List ℕ → (end : ℕ) → Headed → ℕ → Type 0
InUnknown s end e a =
    Walks (child_at true s (Endless e.header.id end)) (λ c. Ok (within c)) (λ c. Unit) e.payload.at a

-- What a search comes to: the header of an element of the file, before the segment or where none is left; a child of
-- the segment, whose size is known or, in live mode, is not; what an element of unknown size holds that is passed over,
-- before the segment or in it; what the seek heads lead to, from the first on, which is such a child; an element of the
-- part that was found.
pub data SearchComes (live : Bool) (s : List ℕ) (part numbers : ℕ) : ℕ → Errand → Type 0 where
  in_file : (a : ℕ) → ToSegment live s a → SearchComes live s part numbers a (to_step live)
  in_segment :
      (segment : Headed) (a : ℕ) → segment_of live s ≡ Ok segment → (live && unknown segment.header) ≡ false
      → InSegment live s part segment a → a < behind segment
      → SearchComes live s part numbers a (to_pass live (seek_head_id ∷ part ∷ []) (behind segment - a))
  in_endless :
      (segment : Headed) (a : ℕ) → segment_of live s ≡ Ok segment → (live && unknown segment.header) ≡ true
      → InSegment live s part segment a → (child_at live s (stretch_of live s segment) a ≡ (Ok None) → ⊥)
      → SearchComes live s part numbers a (to_step live)
  in_file_unknown :
      (at : ℕ) (e : Headed) (a : ℕ) → ToSegment live s at → child_at live s (Sized (length s)) at ≡ Ok (Some e)
      → (e.header.id ≡ segment_id → ⊥) → (live && unknown e.header) ≡ true → InUnknown s (length s) e a
      → (child_at true s (Endless e.header.id (length s)) a ≡ (Ok None) → ⊥)
      → SearchComes live s part numbers a (to_step true)
  in_segment_unknown :
      (segment : Headed) (at : ℕ) (e : Headed) (a : ℕ) → segment_of live s ≡ Ok segment
      → InSegment live s part segment at → child_at live s (stretch_of live s segment) at ≡ Ok (Some e)
      → PassedOver live part segment e → (live && unknown e.header) ≡ true
      → InUnknown s (end_of (stretch_of live s segment)) e a
      → (child_at true s (Endless e.header.id (end_of (stretch_of live s segment))) a ≡ (Ok None) → ⊥)
      → SearchComes live s part numbers a (to_step true)
  from_heads :
      (segment first : Headed) (a : ℕ) (x : Errand) → segment_of live s ≡ Ok segment
      → InSegment live s part segment first.place.at
      → child_at live s (stretch_of live s segment) first.place.at ≡ Ok (Some first)
      → IsAt s seek_head_id first.place.at first → HeadsCome live s part segment.payload.at first a x
      → SearchComes live s part numbers a x
  in_part :
      (parent : ℕ) (e : Headed) (heads : List ℕ) (a : ℕ) (x : Errand) → parent_of part ≡ Some parent
      → lookup_of live s part ≡ found e heads
      → Comes s (keeping live) (numbers / width) 0 parent e.payload.at e.header.size 0 a x
      → SearchComes live s part numbers a x

-- A search is refused for a fault that it comes to, at its address. It shuts out a reader that names the segment where
-- a child overruns it, the seek head where its entry is stale, the start of the recording where no segment is left, and
-- the Cluster of unknown size where a block in it has an unknown size too, and one that goes on behind the end of an
-- element of unknown size.
abbrev pub SearchHonest : Type 0
SearchHonest =
    (live : Bool) (s : List ℕ) (part : ℕ) (t : List ℕ) (e : Refusal) (t' : List ℕ)
    → PartPromise live s part t (Err e) t' → Honest s (SearchComes live s part (length t)) e
