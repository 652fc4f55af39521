-- `open` is the same in both modes where the sizes that it reads are known (`EqualOpens`). Assumes nothing.
use Prim.Native.Nat.{ℕ}
use mathlib.Core.Path.{◌≡◌, refl, sym, ap, ◌∙◌, subst}
use mathlib.Core.List.{List, [], ◌∷◌, ◌++◌}
use mathlib.Core.Logic.{◌⊎◌, inl, inr}
use mathlib.Core.Bool.{Bool, true, false, cond, not}
use native.Mathlib.Omega.{arith}
use lib.Dec.{eqb}
use borrow.Author.Tests.{eqb-true, eqb-false, leb-false}
use Rattle.refusals.specs.Refusals.{overrun, bad_argument, unknown_size}
use Rattle.header.specs.Reads.{behind}
use Rattle.header.specs.declared.cursor.Headed.{Headed}
use Rattle.sizes.specs.Unknown.{unknown}
use Rattle.kinds.specs.Kinds.{member}
use Rattle.elements_rules.specs.Forest.{count}
use Rattle.elements_rules.specs.Reading.{Outcome, done, refuse_if}
use Rattle.elements_rules.specs.Reading.{refused as unread}
use Rattle.elements_rules.specs.Promise.{allowed, filled, read_of}
use Rattle.elements_rules.specs.Faults.{Errand, to_step, to_pass}
use Rattle.elements_rules.specs.Live.{AllKnown}
use Rattle.elements_rules.proofs.Live.{none_is_all, body_known, live_reads}
use Rattle.walks_rules.specs.Answers.{on_header}
use Rattle.walks_rules.specs.Step.{is_past, child_at}
use Rattle.walks_rules.specs.Walk.{Visit, ends, over, on_visit}
use Rattle.walks_rules.specs.Endings.{pass_over, room_of, walk_from}
use Rattle.walks_rules.specs.declared.step.Stretch.{Stretch}
use Rattle.walks_rules.specs.declared.step.Stretch.TheVariants.{Sized}
use Rattle.walks_rules.proofs.Steps.{stepped_on}
use Rattle.walks_rules.proofs.Known.{KnownAt, child_known, pass_known}
use Rattle.seekhead_rules.specs.Seeks.{seek_head_id}
use Rattle.seekchain_rules.specs.Answers.{on_outcome}
use Rattle.seekchain_rules.specs.Heads.{Heads, no_heads, Chain, chained, broken, most_heads, linked_heads}
use Rattle.seekchain_rules.specs.Lookup.{Lookup, stopped}
use Rattle.seekchain_rules.specs.Lookup.{found as found_at, absent as absent_at}
use Rattle.seekchain_rules.specs.Theorems.{IsAt}
use Rattle.seekchain_rules.specs.Faults.{HeadsCome, initial}
use Rattle.seekchain_rules.proofs.Faults.{Ends, Came, chain_came}
use Rattle.seekchain_rules.proofs.Live.{chain_known, part_known}
use Rattle.segments_rules.specs.Segment.{segment_of, stretch_of, overruns, within_segment, part_ids}
use Rattle.search_rules.specs.Faults.{begun, Along, ToSegment}
use Rattle.search_rules.proofs.Faults.{child_before}
use Rattle.search_rules.proofs.Live.{same_walk, of_known, segment_known, segment_sized}
use Rattle.search_rules.proofs.Live.{Sizes as SegmentSized}
use Rattle.open_rules.specs.Parts.{id_of, which_of, parent_of, order, no_parts, placed, part_of, found_part}
use Rattle.open_rules.specs.Tables.{Tables, Sizes, sizes_of, of, part_read}
use Rattle.open_rules.specs.Opening.{Opening, refused, taken, on_lookup, on_chain, sought_from, by_heads_all}
use Rattle.open_rules.specs.Opening.{visit, opening, children_from, whole_of}
use Rattle.open_rules.specs.Promise.{are_allowed, open_of, reply_of, OpenPromise}
use Rattle.open_rules.specs.Faults.{PartComes, WasRead, OpenedOver, place_of, unnamed}
use Rattle.open_rules.specs.Faults.{read_there, AllPast, Before, OpenComes, in_file, in_segment, in_met, from_heads}
use Rattle.open_rules.specs.Faults.{in_sought}
use Rattle.open_rules.specs.Live.{EqualOpens, EqualOpensWithout}
use Rattle.open_rules.specs.declared.parts.Which.{Which}
use Rattle.open_rules.specs.declared.parts.Which.TheVariants.{Info, Tracks, Attachments, Chapters, Tags}
use Rattle.open_rules.specs.declared.parts.Parts.{Parts}
use Rattle.open_rules.proofs.Lending.{each_same}
use Rattle.open_rules.proofs.Faults.{clash, joins, past_snoc, in_turn, first_turn}
use Rattle.open_rules.proofs.Unique.{all_zeroed}
use Rattle.open_rules.proofs.Found.{open_is_read}
use Rattle.std.proofs.Common.{Result, Ok, Err, Some}
use Rattle.refusals.specs.declared.refusal.Refusal.{Refusal}
use Rattle.std.proofs.Common.{Option, None}
use Rattle.search_rules.specs.declared.part.Part.{Part}

module _ (s : List ℕ) (n : Sizes) (k : AllKnown s (OpenComes false s n)) where
  -- A part that is come to is read alike.
  read_known : (which : Which) (e : Headed)
      → ((a : ℕ) (x : Errand) → PartComes false s n which e a x → OpenComes false s n a x)
      → part_read true s n which e.payload.at e.header.size
      ≡ part_read false s n which e.payload.at e.header.size
  unfolding part_read read_of filled
  read_known which e on =
      ap (refuse_if (not (allowed s e.payload.at (of n which))) bad_argument)
      (body_known s true _ 0 (parent_of which) e.payload.at e.header.size 0 (omega arith)
      (λ a x h c r w. k a x h (on a x c) r w))

  in_file_law : (at : ℕ) → ToSegment false s at → KnownAt s at
  in_file_law at g h q = k at (to_step false) h (in_file at g) refl q

  -- ---- in the segment

  module _ (segment : Headed) (is : segment_of false s ≡ Ok segment) (u : unknown segment.header ≡ false) where
    abbrev stretch : Stretch
    stretch = Sized (behind segment)

    abbrev start : ℕ
    start = segment.payload.at

    stretch_same : stretch_of true s segment ≡ stretch
    unfolding stretch_of
    stretch_same = rw u refl

    abbrev On : ℕ → Type 0
    On at = Along false s stretch (OpenedOver false s n segment) segment.payload.at at

    in_segment_law : (at : ℕ) → On at → is_past s stretch at ≡ false → KnownAt s at
    unfolding is_past stretch_of
    in_segment_law at g p h q =
        k at (to_pass false (seek_head_id ∷ []) _) h
        (in_segment segment at is refl g (leb-false (behind segment) at p)) refl q

    child_sized : (at : ℕ) (e : Headed) → On at → child_at false s stretch at ≡ Ok (Some e) → unknown e.header ≡ false
    child_sized at e g q = of_known s stretch at e (in_segment_law at g (child_before false s stretch at e q)) q

    -- ---- from the first head on

    module _ (first : Headed) (g : On first.place.at) (c : child_at false s stretch first.place.at ≡ Ok (Some first))
        (h : IsAt s seek_head_id first.place.at first) where
      -- What the heads lead to for a part whose turn it is.
      heads_known : (which : Which) → Before false s n start first which
          → AllKnown s (HeadsCome false s (id_of which) start first)
      unfolding stretch_of
      heads_known which b a x y r e q = k a x y (from_heads segment first which a x is g c h b r) e q

      chain_same : linked_heads true s start first ≡ linked_heads false s start first
      chain_same =
          chain_known s (id_of Info) start first (heads_known Info (first_turn false s n start first)) most_heads
          no_heads
          first initial

      module _ (heads : Heads) (w : linked_heads false s start first ≡ chained heads) where
        -- The heads ended there.
        ended : (wanted : ℕ) → Ends false s wanted start first heads
        ended wanted =
            subst (Came false s wanted start first) w
            (chain_came false s wanted start first most_heads no_heads first initial refl)

        place_same : (which : Which) → Before false s n start first which
            → place_of true s n start heads which ≡ place_of false s n start heads which
        place_same which b =
            part_known s (id_of which) start first (heads_known which b) heads (ended (id_of which))

        sought_same : (before later : List Which) → order ≡ before ++ later → AllPast false s n start heads before
            → (ps : Parts)
            → sought_from true s n start heads later ps ≡ sought_from false s n start heads later ps
        unfolding sought_from stretch_of
        sought_same before [] o p ps = refl
        sought_same before (which ∷ later) o p ps =
            ap (λ (y : Lookup). on_lookup true s n y
            (λ e. taken true s n which e ps refused (sought_from true s n start heads later))
            (sought_from true s n start heads later ps))
            (place_same which (in_turn false s n start first heads w which before later o p))
            ∙ by_place (place_of false s n start heads which) refl (sought_same (before ++ (which ∷ [])) later)
          where
            Onward : Type 0
            Onward = order ≡ (before ++ (which ∷ [])) ++ later → AllPast false s n start heads (before ++ (which ∷ []))
                → (qs : Parts)
                → sought_from true s n start heads later qs ≡ sought_from false s n start heads later qs

            now_ordered : order ≡ (before ++ (which ∷ [])) ++ later
            now_ordered = o ∙ sym (joins before which later)

            by_reading : (e : Headed) (hs : List ℕ) → place_of false s n start heads which ≡ found_at e hs → Onward
                → (x : Outcome) → part_read false s n which e.payload.at e.header.size ≡ x
                → on_outcome x refused (λ f.
                sought_from true s n start heads later
                (placed ps which (found_part e.payload.at e.header.size (count f))))
                ≡ on_outcome x refused (λ f.
                sought_from false s n start heads later
                (placed ps which (found_part e.payload.at e.header.size (count f))))
            by_reading e hs q on (done f) v =
                on now_ordered (past_snoc false s n start first heads w before which p (read_there e hs q (f, v))) _
            by_reading e hs q on (unread r) v = refl

            in_the_part : (e : Headed) (hs : List ℕ) → place_of false s n start heads which ≡ found_at e hs
                → (a : ℕ) (x : Errand) → PartComes false s n which e a x → OpenComes false s n a x
            in_the_part e hs q a x y =
                in_sought segment first which heads e hs a x is g c h
                (in_turn false s n start first heads w which before later o p) w q y

            by_place : (y : Lookup) → place_of false s n start heads which ≡ y → Onward
                → on_lookup true s n y
                (λ e. taken true s n which e ps refused (sought_from true s n start heads later))
                (sought_from true s n start heads later ps)
                ≡ on_lookup false s n y
                (λ e. taken false s n which e ps refused (sought_from false s n start heads later))
                (sought_from false s n start heads later ps)
            by_place (found_at e hs) q on =
                ap (λ (x : Outcome). on_outcome x refused (λ f.
                sought_from true s n start heads later
                (placed ps which (found_part e.payload.at e.header.size (count f)))))
                (read_known which e (in_the_part e hs q))
                ∙ by_reading e hs q on (part_read false s n which e.payload.at e.header.size) refl
            by_place (absent_at hs) q on =
                on now_ordered (past_snoc false s n start first heads w before which p (unnamed hs q)) ps
            by_place (stopped r) q on = refl

      heads_same : (ps : Parts) → by_heads_all true s n start first ps ≡ by_heads_all false s n start first ps
      unfolding by_heads_all AllPast
      heads_same ps =
          ap (λ (x : Chain). on_chain true s n x (λ heads. sought_from true s n start heads order ps)) chain_same
          ∙ by (linked_heads false s start first) refl
        where
          by : (x : Chain) → linked_heads false s start first ≡ x
              → on_chain true s n x (λ heads. sought_from true s n start heads order ps)
              ≡ on_chain false s n x (λ heads. sought_from false s n start heads order ps)
          by (chained heads) q = sought_same heads q [] order refl tt ps
          by (broken r) q = refl

    -- ---- the children

    module _ (at : ℕ) (e : Headed) (g : On at) (q : child_at false s stretch at ≡ Ok (Some e)) where
      begins : e.place.at ≡ at
      begins = (stepped_on false s stretch at e q).begins

      here : On e.place.at
      here = subst On (sym begins) g

      child_here : child_at false s stretch e.place.at ≡ Ok (Some e)
      child_here = ap (child_at false s stretch) begins ∙ q

      met_same : member e.header.id part_ids ≡ true
          → part_read true s n (which_of e.header.id) e.payload.at e.header.size
          ≡ part_read false s n (which_of e.header.id) e.payload.at e.header.size
      unfolding stretch_of
      met_same m = read_known (which_of e.header.id) e (λ a x y. in_met segment e a x is here child_here m y)

      visit_same : (ps : Parts) → visit true s n segment ps e ≡ visit false s n segment ps e
      unfolding visit
      visit_same ps = by (eqb e.header.id seek_head_id) refl (member e.header.id part_ids) refl
        where
          by : (b : Bool) → eqb e.header.id seek_head_id ≡ b → (c : Bool) → member e.header.id part_ids ≡ c
              → cond {A = Visit Parts Opening} b (ends (by_heads_all true s n start e ps))
              (cond c (taken true s n (which_of e.header.id) e ps (λ r. ends (refused r)) over) (over ps))
              ≡ cond b (ends (by_heads_all false s n start e ps))
              (cond c (taken false s n (which_of e.header.id) e ps (λ r. ends (refused r)) over) (over ps))
          by true i c m =
              ap ends (heads_same e here child_here
              (record {
                head = (stepped_on false s stretch at e q).there;
                named = eqb-true e.header.id seek_head_id i;
              }) ps)
          by false i true m =
              ap (λ (x : Outcome). on_outcome x (λ r. ends (refused r)) (λ f.
              over (placed ps (which_of e.header.id) (found_part e.payload.at e.header.size (count f)))))
              (met_same m)
          by false i false m = refl

      overruns_same : overruns true segment e ≡ overruns false segment e
      unfolding overruns
      overruns_same = rw (u, child_sized at e g q) refl

      within_same : (ps : Parts)
          → (within_segment true segment (opening true s n segment)).visit ps e
          ≡ (within_segment false segment (opening false s n segment)).visit ps e
      within_same ps = rw (visit_same ps, overruns_same) refl

    -- A child that is passed over is one that the way goes over.
    gone_over : (ps qs : Parts) (e : Headed)
        → (within_segment false segment (opening false s n segment)).visit ps e ≡ over qs
        → OpenedOver false s n segment e
    unfolding visit
    gone_over ps qs e w =
        by (eqb e.header.id seek_head_id) refl (member e.header.id part_ids) refl (overruns false segment e) refl w
      where
        passes : eqb e.header.id seek_head_id ≡ false
            → (member e.header.id part_ids ≡ true → WasRead false s n (which_of e.header.id) e) → (rs : Parts)
            → (d : Bool) → overruns false segment e ≡ d
            → ◌≡◌ {A = Visit Parts Opening} (cond d (ends (refused (overrun e.place.at))) (over rs)) (over qs)
            → OpenedOver false s n segment e
        passes i r rs true o v = clash cc
        passes i r rs false o v =
            record { head = eqb-false e.header.id seek_head_id i; read = r; within = o }

        by_reading : eqb e.header.id seek_head_id ≡ false → (d : Bool) → overruns false segment e ≡ d
            → (x : Outcome) → part_read false s n (which_of e.header.id) e.payload.at e.header.size ≡ x
            → ◌≡◌ {A = Visit Parts Opening} (on_visit
            (on_outcome x (λ r. ends (refused r)) (λ f.
            over (placed ps (which_of e.header.id) (found_part e.payload.at e.header.size (count f)))))
            ends (λ more. cond d (ends (refused (overrun e.place.at))) (over more)))
            (over qs)
            → OpenedOver false s n segment e
        by_reading i d o (done f) v z = passes i (λ p. (f, v)) _ d o z
        by_reading i d o (unread r) v z = clash cc

        by : (b : Bool) → eqb e.header.id seek_head_id ≡ b → (c : Bool) → member e.header.id part_ids ≡ c
            → (d : Bool) → overruns false segment e ≡ d
            → ◌≡◌ {A = Visit Parts Opening} (on_visit
            (cond b (ends (by_heads_all false s n segment.payload.at e ps))
            (cond c (taken false s n (which_of e.header.id) e ps (λ r. ends (refused r)) over) (over ps)))
            ends (λ more. cond d (ends (refused (overrun e.place.at))) (over more)))
            (over qs)
            → OpenedOver false s n segment e
        by true i c m d o v = clash cc
        by false i true m d o v =
            by_reading i d o (part_read false s n (which_of e.header.id) e.payload.at e.header.size) refl v
        by false i false m d o v = passes i (λ p. clash (let z : true ≡ false = sym p ∙ m in cc)) ps d o v

    children_same : (ps : Parts)
        → children_from true s n segment start ps ≡ children_from false s n segment start ps
    unfolding stretch_of
    children_same ps =
        ap (λ (y : Stretch).
        walk_from true s y (within_segment true segment (opening true s n segment)) segment.payload.at ps)
        stretch_same
        ∙ same_walk (child_at false s stretch) (child_at true s stretch) (pass_over false s (behind segment))
        (pass_over true s (behind segment)) (within_segment false segment (opening false s n segment))
        (within_segment true segment (opening true s n segment)) (OpenedOver false s n segment)
        segment.payload.at (λ at a. refl) (λ e. refl)
        (λ at g. child_known s stretch at (in_segment_law at g))
        (λ a at e g q. within_same at e g q a)
        (λ a b at e g q w. gone_over a b e w)
        (λ at e g q. pass_known s (behind segment) e (child_sized at e g q))
        (room_of s stretch segment.payload.at) segment.payload.at ps begun

  whole_same : whole_of true s n ≡ whole_of false s n
  unfolding whole_of
  whole_same =
      ap (λ (x : Result Headed Refusal). on_header x refused (λ segment.
      children_from true s n segment segment.payload.at no_parts)) (segment_known s in_file_law)
      ∙ by (segment_of false s) refl (segment_sized s in_file_law)
    where
      by : (x : Result Headed Refusal) → segment_of false s ≡ x → SegmentSized s in_file_law x
          → on_header x refused (λ segment. children_from true s n segment segment.payload.at no_parts)
          ≡ on_header x refused (λ segment. children_from false s n segment segment.payload.at no_parts)
      by (Ok segment) is u = children_same segment is u no_parts
      by (Err r) is u = refl

open_same : (s : List ℕ) (n : Sizes) → (are_allowed s n ≡ true → AllKnown s (OpenComes false s n))
    → open_of true s n ≡ open_of false s n
unfolding open_of
open_same s n k = by (are_allowed s n) refl
  where
    by : (b : Bool) → are_allowed s n ≡ b
        → cond (not b) (refused bad_argument) (whole_of true s n)
        ≡ cond (not b) (refused bad_argument) (whole_of false s n)
    by true a = whole_same s n (k a)
    by false a = refl

-- The table of a part is the same in both modes, where it was read in both.
table_same : (s : List ℕ) (t : Tables) (ps : Parts) (k : ℕ) (t' u' : Tables) → OpenPromise false s t (Ok (ps, k)) t'
    → OpenPromise true s t (Ok (ps, k)) u' → (which : Which) → of u' which ≡ of t' which
table_same s t ps k t' u' p q which = by (part_of ps which) refl
  where
    read_same : (rows : ℕ)
        → ((a : ℕ) × (◌≡◌ {A = (Result ℕ Refusal)} (Ok rows) (Err (unknown_size a))))
        ⊎ ((◌≡◌ {A = (Result ℕ Refusal)} (Ok rows) (Ok rows)) × (of u' which ≡ of t' which))
        → of u' which ≡ of t' which
    read_same rows (inl (a, e)) = clash cc
    read_same rows (inr (e, w)) = w

    by : (x : Option Part) → part_of ps which ≡ x → of u' which ≡ of t' which
    by None e = all_zeroed.absent true s t ps k u' q which e ∙ sym (all_zeroed.absent false s t ps k t' p which e)
    by (Some part) e =
        read_same part.rows
        (live_reads s part.at part.size (parent_of which) (of t which) (Ok part.rows) (Ok part.rows) (of t' which)
        (of u' which) (open_is_read false s t ps k t' p which part.at part.size part.rows e)
        (open_is_read true s t ps k u' q which part.at part.size part.rows e))

pub equal_opens : EqualOpens
equal_opens s t r r' t' u' k p q =
    let e = open_same s (sizes_of t) k in
    let w : r' ≡ r = q.reply ∙ ap reply_of e ∙ sym p.reply in
    (w, by r p (subst (λ (x : Result (Parts × ℕ) Refusal). OpenPromise true s t x u') w q))
  where
    by : (x : Result (Parts × ℕ) Refusal) → OpenPromise false s t x t' → OpenPromise true s t x u' → u' ≡ t'
    by (Ok (ps, n)) p q =
        let same = table_same s t ps n t' u' p q in
        each_same (same Info) (same Tracks) (same Attachments) (same Chapters) (same Tags)
    by (Err e) p q = all_zeroed.refused true s t e u' q ∙ sym (all_zeroed.refused false s t e t' p)

pub equal_opens_without : EqualOpensWithout
equal_opens_without s t r r' t' u' n p q = equal_opens s t r r' t' u' (λ a. none_is_all s _ n) p q
