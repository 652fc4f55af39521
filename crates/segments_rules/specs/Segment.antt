-- The way to a part (document 01, Seek tables and the search; document 02, C-18): past what stands before the segment,
-- then over the segment's children in turn.
use Rattle.std.specs.Prelude.{ℕ, List, [], ◌∷◌, Bool, false, cond, ◌&&◌, length, ltb, eqb}
use Rattle.refusals.specs.Refusals.{past_end, overrun}
use Rattle.header.specs.Reads.{behind}
use Rattle.header.specs.declared.cursor.Headed.{Headed}
use Rattle.sizes.specs.Unknown.{unknown}
use Rattle.kinds.specs.Kinds.{member}
use Rattle.walks_rules.specs.Answers.{on_header}
use Rattle.walks_rules.specs.Walk.{Visit, ends, over, on_visit, Walk}
use Rattle.walks_rules.specs.Endings.{pass_over, end_of, walk_from}
use Rattle.walks_rules.specs.declared.step.Stretch.{Stretch}
use Rattle.walks_rules.specs.declared.step.Stretch.TheVariants.{Sized, Endless}
use Rattle.seekhead_rules.specs.Seeks.{segment_id, seek_head_id}
use Rattle.seekchain_rules.specs.Lookup.{Lookup, found, absent, stopped, by_heads}
use Rattle.segments_rules.specs.declared.walk.Aim.{Aim}
use Rattle.segments_rules.specs.declared.walk.Aim.TheVariants.{One, Every}
use Rattle.segments_rules.specs.declared.walk.Met.TheVariants.{Head, Part}
use Rattle.std.specs.Prelude.{Result, Option, Ok, Err, Some, None}
use Rattle.segments_rules.specs.declared.walk.Met.{Met}
use Rattle.refusals.specs.declared.refusal.Refusal.{Refusal}

-- ---- before the segment

-- The segment ends the walk over the file's elements; others are passed over. Past the recording's end there is no
-- header: 1 where it would begin.
abbrev pub seeking : Walk Unit (Result Headed Refusal)
seeking = record {
  visit = λ known e. cond (eqb e.header.id segment_id) (ends (Ok e)) (over known);
  ended = λ at known. Err (past_end at);
  stop = Err;
}

-- The segment from an address on.
abbrev pub segment_from : (live : Bool) → List ℕ → ℕ → Result Headed Refusal
segment_from live s at = walk_from live s (Sized (length s)) seeking at tt

unfoldable pub segment_of : (live : Bool) → List ℕ → Result Headed Refusal
segment_of live s = segment_from live s 0

-- ---- the segment's children

-- What a segment holds: its children up to the end that its size names; in live mode, where that is unknown, up to its
-- ending.
unfoldable pub stretch_of : (live : Bool) → List ℕ → (segment : Headed) → Stretch
stretch_of live s segment =
    cond (live && unknown segment.header) (Endless segment_id (length s)) (Sized (behind segment))

-- A child is larger than what was left of the segment; in live mode where both sizes are known.
unfoldable pub overruns : (live : Bool) → (segment e : Headed) → Bool
overruns live segment e =
    cond (live && unknown segment.header) false
    (cond (live && unknown e.header) false (ltb (behind segment) (behind e)))

-- A walk within a segment: a child that is passed over need not be there, but it is 3 if it is larger than what was
-- left.
abbrev pub within_segment : {A B : Type 0} → (live : Bool) → Headed → Walk A B → Walk A B
within_segment live segment w = record {
  visit = λ known e.
      on_visit (w.visit known e) ends (λ more.
      cond (overruns live segment e) (ends (w.stop (overrun e.place.at))) (over more));
  ended = w.ended;
  stop = w.stop;
}

-- The place behind a child that is passed over: 3 where it overruns the segment.
unfoldable pub past_child : (live : Bool) → List ℕ → (segment e : Headed) → Result ℕ Refusal
past_child live s segment e =
    cond (overruns live segment e) (Err (overrun e.place.at))
    (pass_over live s (end_of (stretch_of live s segment)) e)

-- ---- what a walk meets

-- The parts of a recording (document 02, C-14): Info, Tracks, Attachments, Chapters, Tags.
abbrev pub part_ids : List ℕ
part_ids = 0x1549A966 ∷ 0x1654AE6B ∷ 0x1941A469 ∷ 0x1043A770 ∷ 0x1254C367 ∷ []

-- Whether a walk looks for an id.
unfoldable pub aims_at : Aim → ℕ → Bool
aims_at (One part) id = eqb id part
aims_at Every id = member id part_ids

-- A seek head ends the walk, and a part that is looked for; anything else is passed over.
unfoldable pub meets : Aim → Headed → Visit Unit (Result (Option Met) Refusal)
meets aim e =
    cond (eqb e.header.id seek_head_id) (ends (Ok (Some (Head e))))
    (cond (aims_at aim e.header.id) (ends (Ok (Some (Part e)))) (over tt))

abbrev pub meeting : Aim → Walk Unit (Result (Option Met) Refusal)
meeting aim = record { visit = λ known e. meets aim e; ended = λ at known. (Ok None); stop = Err }

-- What is met first from an address on.
abbrev pub met_from : (live : Bool) → List ℕ → Aim → (segment : Headed) (at : ℕ) → Result (Option Met) Refusal
met_from live s aim segment at =
    walk_from live s (stretch_of live s segment) (within_segment live segment (meeting aim)) at tt

-- ---- the search

-- What a child does to the search: a seek head leads on by its entries, with positions counted from the segment's
-- start; the wanted part is found; anything else is passed over.
unfoldable pub visit : (live : Bool) → List ℕ → (wanted : ℕ) (segment e : Headed) → Visit Unit Lookup
visit live s wanted segment e =
    cond (eqb e.header.id seek_head_id) (ends (by_heads live s wanted segment.payload.at e))
    (cond (eqb e.header.id wanted) (ends (found e [])) (over tt))

abbrev pub searching : (live : Bool) → List ℕ → (wanted : ℕ) (segment : Headed) → Walk Unit Lookup
searching live s wanted segment =
    record { visit = λ known e. visit live s wanted segment e; ended = λ at known. absent []; stop = stopped }

-- The children from an address on, up to the segment's end.
abbrev pub segment_children_from : (live : Bool) → List ℕ → (wanted : ℕ) (segment : Headed) (at : ℕ) → Lookup
segment_children_from live s wanted segment at =
    walk_from live s (stretch_of live s segment) (within_segment live segment (searching live s wanted segment)) at tt

-- All of them. The segment starts at the address after its header.
unfoldable pub segment_children : (live : Bool) → List ℕ → (wanted : ℕ) (segment : Headed) → Lookup
segment_children live s wanted segment = segment_children_from live s wanted segment segment.payload.at

-- Where the wanted part is.
unfoldable pub lookup_of : (live : Bool) → List ℕ → (wanted : ℕ) → Lookup
lookup_of live s wanted = on_header (segment_of live s) stopped (segment_children live s wanted)
