-- `open` is refused for a fault that it comes to, at its address (`OpenHonest`). Assumes nothing.
use Prim.Native.Nat.{ℕ, ◌-◌, ◌<◌}
use mathlib.Core.Path.{◌≡◌, refl, sym, ap, ◌∙◌, subst}
use mathlib.Core.List.{List, [], ◌∷◌, ◌++◌}
use mathlib.Core.Logic.{inl}
use mathlib.Core.Bool.{Bool, true, false, cond, ◌&&◌, not}
use native.Mathlib.Omega.{arith}
use lib.Dec.{leb, eqb}
use borrow.Author.Tests.{eqb-true, eqb-false, leb-false}
use Rattle.refusals.specs.Refusals.{because, overrun, bad_argument}
use Rattle.refusals.specs.declared.refusal.Cause.{Cause}
use Rattle.refusals.specs.declared.refusal.Cause.TheVariants as C
use Rattle.refusals.specs.declared.refusal.Refusal.{Refusal}
use Rattle.header.specs.Reads.{behind}
use Rattle.header.specs.declared.cursor.Headed.{Headed}
use Rattle.header.proofs.Inside.{header_there}
use Rattle.sizes.specs.Unknown.{unknown}
use Rattle.kinds.specs.Kinds.{member}
use Rattle.elements_rules.specs.Forest.{count}
use Rattle.elements_rules.specs.Reading.{Outcome, done}
use Rattle.elements_rules.specs.Reading.{refused as unread}
use Rattle.elements_rules.specs.Faults.{Errand, to_step, to_pass, larger_passed, Fault, Honest, there, callers}
use Rattle.elements_rules.proofs.Faults.{reading_honest}
use Rattle.walks_rules.specs.Answers.{on_header}
use Rattle.walks_rules.specs.Step.{is_past, barred_step, child_at}
use Rattle.walks_rules.specs.Walk.{ends, over, on_visit}
use Rattle.walks_rules.specs.Endings.{end_of}
use Rattle.walks_rules.specs.declared.step.Stretch.{Stretch}
use Rattle.walks_rules.proofs.Steps.{Stepped, stepped_on}
use Rattle.seekhead_rules.specs.Seeks.{seek_head_id}
use Rattle.seekchain_rules.specs.Answers.{on_outcome}
use Rattle.seekchain_rules.specs.Heads.{Heads, Chain, chained, broken, linked_heads}
use Rattle.seekchain_rules.specs.Lookup.{Lookup, stopped, by_heads}
use Rattle.seekchain_rules.specs.Lookup.{found as found_at, absent as absent_at}
use Rattle.seekchain_rules.specs.Theorems.{IsAt}
use Rattle.seekchain_rules.proofs.Faults.{step_fault, heads_honest}
use Rattle.segments_rules.specs.Segment.{segment_of, stretch_of, overruns, within_segment, part_ids}
use Rattle.segments_rules.specs.Segment.{lookup_of}
use Rattle.search_rules.specs.Faults.{SearchComes}
use Rattle.search_rules.specs.Faults.{in_file as file_searched, in_file_unknown as unknown_searched}
use Rattle.search_rules.specs.Faults.{in_segment as segment_searched, in_endless as endless_searched}
use Rattle.search_rules.specs.Faults.{in_segment_unknown as within_searched, from_heads as heads_searched}
use Rattle.search_rules.specs.Faults.{in_part as part_searched}
use Rattle.search_rules.proofs.Faults.{Went, the_walk, not_ended, passed_fault, overrun_known, child_before}
use Rattle.search_rules.proofs.Faults.{place_fault}
use Rattle.open_rules.specs.Parts.{id_of, which_of, parent_of, order, no_parts, placed, found_part}
use Rattle.open_rules.specs.Tables.{Sizes, sizes_of, of, part_read}
use Rattle.open_rules.specs.Opening.{Opening, read, refused, taken, on_lookup, on_chain, sought_from, by_heads_all}
use Rattle.open_rules.specs.Opening.{visit, opening, children_from, whole_of}
use Rattle.open_rules.specs.Promise.{are_allowed, open_of, reply_of}
use Rattle.open_rules.specs.Faults.{PartComes}
use Rattle.open_rules.specs.Faults.{WasRead, OpenedOver, InOpen, place_of, SoughtPast, unnamed, read_there, AllPast}
use Rattle.open_rules.specs.Faults.{Before, OpenComes, in_file, in_file_unknown, in_segment, in_endless}
use Rattle.open_rules.specs.Faults.{in_segment_unknown, in_met, from_heads, in_sought, OpenHonest}
use Rattle.open_rules.specs.declared.parts.Which.{Which}
use Rattle.open_rules.specs.declared.parts.Which.TheVariants.{Info, Tracks, Attachments, Chapters, Tags}
use Rattle.open_rules.specs.declared.parts.Parts.{Parts}
use Rattle.std.proofs.Common.{Result, Ok, Err, Some}

-- Two answers that are not of one kind.
pub clash : {A : Type 0} → ◌≡◌ {A = ℕ} 0 1 → A
clash z = let y : ⊥ = omega arith in absurd y

-- A list is what stands before an element, the element, and what stands behind it.
pub joins : (before : List Which) (which : Which) (more : List Which)
    → (before ++ (which ∷ [])) ++ more ≡ before ++ (which ∷ more)
joins [] which more = refl
joins (x ∷ before) which more = ap (λ (l : List Which). x ∷ l) (joins before which more)

-- The parts that were sought, by the heads from the first one on.
module _ (live : Bool) (s : List ℕ) (n : Sizes) (start : ℕ) (first : Headed) (heads : Heads)
    (c : linked_heads live s start first ≡ chained heads) where
  same_heads : (hs : Heads) → linked_heads live s start first ≡ chained hs → heads ≡ hs
  same_heads hs q = let z : chained heads ≡ chained hs = sym c ∙ q in cc

  pub past_snoc : (before : List Which) (which : Which) → AllPast live s n start heads before
      → SoughtPast live s n start heads which → AllPast live s n start heads (before ++ (which ∷ []))
  unfolding AllPast
  past_snoc [] which p q = (q, tt)
  past_snoc (x ∷ before) which (p, more) q = (p, past_snoc before which more q)

  pub in_turn : (which : Which) (before later : List Which) → order ≡ before ++ (which ∷ later)
      → AllPast live s n start heads before → Before live s n start first which
  in_turn which before later o p = record {
    earlier = before;
    later = later;
    ordered = o;
    past = λ hs q. subst (λ (x : Heads). AllPast live s n start x before) (same_heads hs q) p;
  }

-- Info is the first of them.
pub first_turn : (live : Bool) (s : List ℕ) (n : Sizes) (start : ℕ) (first : Headed) → Before live s n start first Info
unfolding AllPast
first_turn live s n start first = record {
  earlier = [];
  later = Tracks ∷ Attachments ∷ Chapters ∷ Tags ∷ [];
  ordered = refl;
  past = λ heads w. tt;
}

module _ (live : Bool) (s : List ℕ) (n : Sizes) where
  abbrev Comes : ℕ → Errand → Type 0
  Comes a x = OpenComes live s n a x

  abbrev Here : Refusal → Type 0
  Here e = Honest s (OpenComes live s n) e

  -- What the walk comes to is at fault.
  at_fault : (a : ℕ) (x : Errand) (c : Cause) → Comes a x → Fault s a x c → Here (because c a)
  at_fault a x c r f = there (record { errand = x; reached = r; fault = f })

  -- A refusal of the reading of a part, where its elements are come to.
  read_fault : (which : Which) (e : Headed)
      → ((a : ℕ) (x : Errand) → PartComes live s n which e a x → Comes a x)
      → (r : Refusal) → part_read live s n which e.payload.at e.header.size ≡ unread r → Here r
  unfolding part_read
  read_fault which e on r q =
      by (reading_honest live s e.payload.at e.header.size (parent_of which) (of n which) r q)
    where
      by : Honest s (PartComes live s n which e) r → Here r
      by (there f) = there (record {
        errand = f.errand;
        reached = on r.address f.errand f.reached;
        fault = f.fault;
      })
      by (callers c z) = callers c z

  -- ---- before the segment

  -- The way to the segment is that of the search.
  as_file : (part numbers : ℕ) (e : Refusal) → segment_of live s ≡ Err e → (a : ℕ) (x : Errand)
      → SearchComes live s part numbers a x → Comes a x
  unfolding lookup_of
  as_file part numbers e q a x (file_searched _ g) = in_file a g
  as_file part numbers e q a x (unknown_searched at d _ g k o u i m) = in_file_unknown at d a g k o u i m
  as_file part numbers e q a x (segment_searched segment _ is u g l) = clash cc
  as_file part numbers e q a x (endless_searched segment _ is u g l) = clash cc
  as_file part numbers e q a x (within_searched segment at d _ is g k o u i m) = clash cc
  as_file part numbers e q a x (heads_searched segment first _ _ is g k i c) = clash cc
  as_file part numbers e q a x (part_searched parent d heads _ _ i l c) = clash (lost l)
    where
      lost : lookup_of live s part ≡ found_at d heads → ◌≡◌ {A = ℕ} 0 1
      lost w = let z : stopped e ≡ found_at d heads = sym (rw q refl) ∙ w in cc

  file_fault : (e : Refusal) → segment_of live s ≡ Err e → Here e
  unfolding lookup_of
  file_fault e q =
      let f = place_fault live s 0 0 e (rw q refl) in
      there (record {
        errand = f.errand;
        reached = as_file 0 0 e q e.address f.errand f.reached;
        fault = f.fault;
      })

  -- ---- in the segment

  abbrev OfOpening : Opening → Type 0
  OfOpening (read ps heads) = Unit
  OfOpening (refused e) = Here e

  module _ (segment : Headed) (is : segment_of live s ≡ Ok segment) where
    abbrev stretch : Stretch
    stretch = stretch_of live s segment

    abbrev start : ℕ
    start = segment.payload.at

    -- ---- from the first head on

    module _ (first : Headed) (g : InOpen live s n segment first.place.at)
        (k : child_at live s stretch first.place.at ≡ Ok (Some first)) (h : IsAt s seek_head_id first.place.at first)
      where
        -- Where a part is, or why it was not found.
        looked : (which : Which) → Before live s n start first which → (r : Refusal)
            → by_heads live s (id_of which) start first ≡ stopped r → Here r
        looked which b r q =
            let f = heads_honest live s (id_of which) start first r q in
            there (record {
              errand = f.errand;
              reached = from_heads segment first which r.address f.errand is g k h b f.reached;
              fault = f.fault;
            })

        module _ (heads : Heads) (c : linked_heads live s start first ≡ chained heads) where
          as_looked : (which : Which) (r : Refusal) → place_of live s n start heads which ≡ stopped r
              → by_heads live s (id_of which) start first ≡ stopped r
          unfolding by_heads
          as_looked which r q = rw c q

          sought_fault : (before later : List Which) → order ≡ before ++ later → AllPast live s n start heads before
              → (ps : Parts) → OfOpening (sought_from live s n start heads later ps)
          unfolding sought_from
          sought_fault before [] o p ps = tt
          sought_fault before (which ∷ later) o p ps =
              by_place (place_of live s n start heads which) refl (sought_fault (before ++ (which ∷ [])) later)
            where
              Onward : Type 0
              Onward = order ≡ (before ++ (which ∷ [])) ++ later → AllPast live s n start heads (before ++ (which ∷ []))
                  → (qs : Parts) → OfOpening (sought_from live s n start heads later qs)

              now_ordered : order ≡ (before ++ (which ∷ [])) ++ later
              now_ordered = o ∙ sym (joins before which later)

              by_reading : (e : Headed) (hs : List ℕ) → place_of live s n start heads which ≡ found_at e hs → Onward
                  → (x : Outcome) → part_read live s n which e.payload.at e.header.size ≡ x
                  → OfOpening (on_outcome x refused (λ f.
                  sought_from live s n start heads later
                  (placed ps which (found_part e.payload.at e.header.size (count f)))))
              by_reading e hs q on (done f) w =
                  on now_ordered
                  (past_snoc live s n start first heads c before which p (read_there e hs q (f, w))) _
              by_reading e hs q on (unread r) w =
                  read_fault which e (λ a x y.
                  in_sought segment first which heads e hs a x is g k h
                  (in_turn live s n start first heads c which before later o p) c q y) r w

              by_place : (y : Lookup) → place_of live s n start heads which ≡ y → Onward
                  → OfOpening (on_lookup live s n y
                  (λ e. taken live s n which e ps refused (sought_from live s n start heads later))
                  (sought_from live s n start heads later ps))
              by_place (found_at e hs) q on =
                  by_reading e hs q on (part_read live s n which e.payload.at e.header.size) refl
              by_place (absent_at hs) q on =
                  on now_ordered (past_snoc live s n start first heads c before which p (unnamed hs q)) ps
              by_place (stopped r) q on =
                  looked which (in_turn live s n start first heads c which before later o p) r (as_looked which r q)

        -- The chain of heads itself is refused where any part is looked up by it.
        chain_broken : (r : Refusal) → linked_heads live s start first ≡ broken r → Here r
        unfolding by_heads
        chain_broken r q = looked Info (first_turn live s n start first) r (rw q refl)

        heads_fault : (ps : Parts) → OfOpening (by_heads_all live s n start first ps)
        unfolding by_heads_all AllPast
        heads_fault ps = by (linked_heads live s start first) refl
          where
            by : (c : Chain) → linked_heads live s start first ≡ c
                → OfOpening (on_chain live s n c (λ heads. sought_from live s n start heads order ps))
            by (chained heads) q = sought_fault heads q [] order refl tt ps
            by (broken r) q = chain_broken r q

    -- ---- the children

    -- Where a segment of known size is walked over, its places are before its end.
    before_end : (live && unknown segment.header) ≡ false → (at : ℕ) → is_past s stretch at ≡ false
        → at < behind segment
    unfolding stretch_of is_past
    before_end u at k = leb_less (rw u at k)
      where
        leb_less : leb (behind segment) at ≡ false → at < behind segment
        leb_less l = leb-false (behind segment) at l

    -- A child that is refused is so on its own errand, by whether the segment's size is known.
    child_fault : (at : ℕ) (e : Refusal) → InOpen live s n segment at → child_at live s stretch at ≡ Err e
        → Here e
    child_fault at e g k = by (live && unknown segment.header) refl
      where
        by : (b : Bool) → (live && unknown segment.header) ≡ b → Here e
        by true u =
            let (l, f, i) = step_fault live s stretch at (to_step live) refl (λ h. refl) e k in
            subst Here i (at_fault at (to_step live) e.cause
            (in_endless segment at is u g (not_ended live s stretch at e k)) f)
        by false u =
            let x = to_pass live (seek_head_id ∷ []) (behind segment - at) in
            let (l, f, i) = step_fault live s stretch at x refl (λ h. refl) e k in
            subst Here i (at_fault at x e.cause (in_segment segment at is u g (before_end u at l)) f)

    visited : (ps : Parts) (at : ℕ) (e : Headed) → InOpen live s n segment at → child_at live s stretch at ≡ Ok (Some e)
        → Went {A = Parts} OfOpening (OpenedOver live s n segment e)
        ((within_segment live segment (opening live s n segment)).visit ps e)
    unfolding visit member barred_step
    visited ps at e g k =
        by (eqb e.header.id seek_head_id) refl (member e.header.id part_ids) refl (overruns live segment e) refl
      where
        t : Stepped live s stretch at e
        t = stepped_on live s stretch at e k

        begins : e.place.at ≡ at
        begins = t.begins

        here : InOpen live s n segment e.place.at
        here = subst (InOpen live s n segment) (sym begins) g

        child_here : child_at live s stretch e.place.at ≡ Ok (Some e)
        child_here = ap (child_at live s stretch) begins ∙ k

        -- An overrun: both sizes are known, and the child is larger than what was left.
        larger : eqb e.header.id seek_head_id ≡ false → overruns live segment e ≡ true
            → Here (overrun e.place.at)
        larger q o =
            let (u, v, l) = overrun_known live segment e o in
            let x = to_pass live (seek_head_id ∷ []) (behind segment - at) in
            subst (λ (y : ℕ). Here (overrun y)) (sym begins)
            (at_fault at x C.Overrun
            (in_segment segment at is u g (before_end u at (child_before live s stretch at e k)))
            (larger_passed live (seek_head_id ∷ []) (behind segment - at) (
              e.header,
              (header_there s at e t.here).head,
              t.allowed,
              (rw q refl, v, omega (arith, t.headed, t.onward)),
            )))

        -- A child that is passed over, or that overruns the segment.
        passes : eqb e.header.id seek_head_id ≡ false
            → (member e.header.id part_ids ≡ true → WasRead live s n (which_of e.header.id) e) → (qs : Parts)
            → (d : Bool) → overruns live segment e ≡ d
            → Went {A = Parts} OfOpening (OpenedOver live s n segment e)
            (cond d (ends (refused (overrun e.place.at))) (over qs))
        passes q r qs true o = larger q o
        passes q r qs false o =
            record { head = eqb-false e.header.id seek_head_id q; read = r; within = o }

        by_reading : eqb e.header.id seek_head_id ≡ false → member e.header.id part_ids ≡ true
            → (d : Bool) → overruns live segment e ≡ d
            → (x : Outcome) → part_read live s n (which_of e.header.id) e.payload.at e.header.size ≡ x
            → Went {A = Parts} OfOpening (OpenedOver live s n segment e)
            (on_visit
            (on_outcome x (λ r. ends (refused r)) (λ f.
            over (placed ps (which_of e.header.id) (found_part e.payload.at e.header.size (count f)))))
            ends (λ more. cond d (ends (refused (overrun e.place.at))) (over more)))
        by_reading q m d o (done f) w = passes q (λ p. (f, w)) _ d o
        by_reading q m d o (unread r) w =
            read_fault (which_of e.header.id) e (λ a x y. in_met segment e a x is here child_here m y) r w

        by : (b : Bool) → eqb e.header.id seek_head_id ≡ b → (c : Bool) → member e.header.id part_ids ≡ c
            → (d : Bool) → overruns live segment e ≡ d
            → Went {A = Parts} OfOpening (OpenedOver live s n segment e)
            (on_visit
            (cond b (ends (by_heads_all live s n segment.payload.at e ps))
            (cond c (taken live s n (which_of e.header.id) e ps (λ r. ends (refused r)) over) (over ps)))
            ends (λ more. cond d (ends (refused (overrun e.place.at))) (over more)))
        by true q c m d o =
            heads_fault e here child_here
            (record { head = t.there; named = eqb-true e.header.id seek_head_id q }) ps
        by false q true m d o =
            by_reading q m d o (part_read live s n (which_of e.header.id) e.payload.at e.header.size) refl
        by false q false m d o = passes q (λ p. clash (let z : true ≡ false = sym p ∙ m in cc)) ps d o

    children_fault : OfOpening (children_from live s n segment segment.payload.at no_parts)
    children_fault =
        the_walk live s stretch (within_segment live segment (opening live s n segment))
        (OpenedOver live s n segment) segment.payload.at OfOpening (λ at a g k. tt)
        (λ at e g k. child_fault at e g k)
        (λ a at e g k. visited a at e g k)
        (λ at e r g k o p.
        let (u, there_is) = passed_fault live s (end_of stretch) e r p in
        let (a, i, m, f, j) = there_is in
        subst Here j (at_fault a (to_step true) r.cause (in_segment_unknown segment at e a is g k o u i m) f)) no_parts

  -- ---- the whole call

  open_fault : OfOpening (open_of live s n)
  unfolding open_of whole_of
  open_fault = by (not (are_allowed s n)) (segment_of live s) refl
    where
      by : (b : Bool) (x : Result Headed Refusal) → segment_of live s ≡ x
          → OfOpening (cond b (refused bad_argument) (on_header x refused (λ segment.
          children_from live s n segment segment.payload.at no_parts)))
      by true x q = callers (inl refl) refl
      by false (Ok segment) q = children_fault segment q
      by false (Err e) q = file_fault e q

pub open_honest : OpenHonest
open_honest live s t e t' p = by (open_of live s (sizes_of t)) p.reply (open_fault live s (sizes_of t))
  where
    by : (o : Opening) → Err e ≡ reply_of o → OfOpening live s (sizes_of t) o
        → Honest s (OpenComes live s (sizes_of t)) e
    by (read ps heads) q f = clash cc
    by (refused r) q f = let i : r ≡ e = cc in subst (Honest s (OpenComes live s (sizes_of t))) i f
