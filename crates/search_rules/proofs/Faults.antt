-- A search is refused for a fault that it comes to, at its address (`SearchHonest`). Assumes nothing.
use Prim.Native.Nat.{ℕ, zero, suc, ◌+◌, ◌-◌, ◌≤◌, ◌<◌}
use mathlib.Core.Path.{◌≡◌, refl, sym, ap, ◌∙◌, subst}
use mathlib.Core.List.{List, [], ◌∷◌}
use mathlib.Core.Logic.{inl}
use mathlib.Core.Bool.{Bool, true, false, cond, ◌&&◌, not}
use native.Mathlib.Omega.{arith}
use lib.ListN.{length}
use lib.Dec.{ltb, leb, eqb}
use borrow.Author.Tests.{eqb-true, eqb-false, ltb-true, leb-true, leb-false}
use Rattle.refusals.specs.Refusals.{because, past_end, overrun, bad_argument}
use Rattle.refusals.specs.Reply.{refusal}
use Rattle.refusals.specs.declared.refusal.Cause.{Cause}
use Rattle.refusals.specs.declared.refusal.Cause.TheVariants as C
use Rattle.refusals.specs.declared.refusal.Refusal.{Refusal}
use Rattle.header.specs.Reads.{behind, header_at}
use Rattle.header.specs.declared.cursor.Headed.{Headed}
use Rattle.header.specs.declared.cursor.Header.{Header}
use Rattle.header.proofs.Inside.{header_there}
use Rattle.sizes.specs.Unknown.{unknown, endless}
use Rattle.kinds.specs.Kinds.{member}
use Rattle.elements_rules.specs.Reading.{Outcome, done}
use Rattle.elements_rules.specs.Reading.{refused as refused_reading}
use Rattle.elements_rules.specs.Promise.{allowed, filled}
use Rattle.elements_rules.specs.Faults.{Errand, to_step, to_pass, reads_header, barred, larger_passed, Fault}
use Rattle.elements_rules.specs.Faults.{FaultThere, Honest, there, callers}
use Rattle.elements_rules.proofs.Faults.{header_fault, filled_found}
use Rattle.walks_rules.specs.Answers.{on_header}
use Rattle.walks_rules.specs.Step.{is_past, ended_by, barred_step, child_at, on_child}
use Rattle.walks_rules.specs.Walk.{Visit, ends, over, on_visit, on_passed, Walk, walk}
use Rattle.walks_rules.specs.Endings.{ended_at, within, ending, end_from, pass_over, end_of, room_of, walk_from}
use Rattle.walks_rules.specs.declared.step.Stretch.{Stretch}
use Rattle.walks_rules.specs.declared.step.Stretch.TheVariants.{Sized, Endless}
use Rattle.walks_rules.proofs.Steps.{Stepped, stepped_on, Goes, goes, past, ended, element, no_room, less_room}
use Rattle.walks_rules.proofs.Endings.{within_onward, pass_onward}
use Rattle.seekhead_rules.specs.Seeks.{segment_id, seek_head_id}
use Rattle.seekchain_rules.specs.Answers.{on_outcome}
use Rattle.seekchain_rules.specs.Lookup.{Lookup, stopped}
use Rattle.seekchain_rules.specs.Lookup.{found as found_at, absent as absent_at, by_heads}
use Rattle.seekchain_rules.proofs.Faults.{past_end_law, step_fault, heads_honest}
use Rattle.segments_rules.specs.Segment.{seeking, segment_of, stretch_of, overruns, within_segment, visit, searching}
use Rattle.segments_rules.specs.Segment.{segment_children, lookup_of}
use Rattle.search_rules.specs.Part.{Search, found, absent, refused, on_parent, on_lookup, parent_of, search_of}
use Rattle.search_rules.specs.Part.{reply_of}
use Rattle.search_rules.specs.Faults.{Walks, begun, passing, Along, ToSegment, PassedOver, InSegment, InUnknown}
use Rattle.search_rules.specs.Faults.{SearchComes, in_file, in_segment, in_endless, in_file_unknown, in_segment_unknown}
use Rattle.search_rules.specs.Faults.{from_heads, in_part, SearchHonest}
use Rattle.std.proofs.Common.{Result, Option, Ok, Err, Some, None}

-- ---- a walk, with the way that it went

-- What a visit has to give: what is to hold of an answer that ends the walk, or that the element is passed over.
abbrev pub Went : {A B : Type 0} → (B → Type 0) → Type 0 → Visit A B → Type 0
Went P Q (ends b) = P b
Went P Q (over a) = Q

module _ {A B : Type 0} (step : ℕ → Result (Option Headed) Refusal) (pass : Headed → Result ℕ Refusal) (w : Walk A B) (Over : Headed → Type 0)
    (from : ℕ) (P : B → Type 0) (room : ℕ → ℕ) (closed : (at : ℕ) → room at ≡ 0 → step at ≡ (Ok None))
    (ahead : (at : ℕ) (e : Headed) (next : ℕ) → step at ≡ Ok (Some e) → pass e ≡ Ok next → room next < room at)
    (at_the_end : (at : ℕ) (a : A) → Walks step pass Over from at → step at ≡ (Ok None) → P (w.ended at a))
    (unread : (at : ℕ) (e : Refusal) → Walks step pass Over from at → step at ≡ Err e → P (w.stop e))
    (each : (a : A) (at : ℕ) (e : Headed) → Walks step pass Over from at → step at ≡ Ok (Some e)
    → Went P (Over e) (w.visit a e))
    (lost : (at : ℕ) (e : Headed) (r : Refusal) → Walks step pass Over from at → step at ≡ Ok (Some e) → Over e
    → pass e ≡ Err r → P (w.stop r)) where
  -- It holds of the whole walk if it holds wherever the way leads.
  on_the_way : (n at : ℕ) (a : A) → room at ≤ n → Walks step pass Over from at → P (walk step pass w n at a)
  unfolding walk
  on_the_way zero at a l g = at_the_end at a g (closed at (omega arith))
  on_the_way (suc n) at a l g = by (step at) refl (on_the_way n)
    where
      Onward : Type 0
      Onward = (next : ℕ) (b : A) → room next ≤ n → Walks step pass Over from next → P (walk step pass w n next b)

      by_pass : (e : Headed) → step at ≡ Ok (Some e) → Over e → Onward → (b : A) (p : Result ℕ Refusal) → pass e ≡ p
          → P (on_passed p w.stop (λ next. walk step pass w n next b))
      by_pass e k o on b (Ok next) q =
          let less = ahead at e next k q in
          on next b (omega arith) (passing at next e g k o q)
      by_pass e k o on b (Err r) q = lost at e r g k o q

      by_visit : (e : Headed) → step at ≡ Ok (Some e) → Onward → (v : Visit A B) → Went P (Over e) v
          → P (on_visit v (λ b. b) (λ more. on_passed (pass e) w.stop (λ next. walk step pass w n next more)))
      by_visit e k on (ends b) p = p
      by_visit e k on (over b) o = by_pass e k o on b (pass e) refl

      by : (x : Result (Option Headed) Refusal) → step at ≡ x → Onward
          → P (on_child x (w.ended at a) w.stop (λ e.
          on_visit (w.visit a e) (λ b. b) (λ more. on_passed (pass e) w.stop (λ next. walk step pass w n next more))))
      by (Ok (Some e)) k on = by_visit e k on (w.visit a e) (each a at e g k)
      by (Ok None) k on = at_the_end at a g k
      by (Err r) k on = unread at r g k

module _ {A B : Type 0} (live : Bool) (s : List ℕ) (stretch : Stretch) (w : Walk A B) (Over : Headed → Type 0)
    (from : ℕ) (P : B → Type 0)
    (at_the_end : (at : ℕ) (a : A) → Along live s stretch Over from at → child_at live s stretch at ≡ (Ok None)
    → P (w.ended at a))
    (unread : (at : ℕ) (e : Refusal) → Along live s stretch Over from at → child_at live s stretch at ≡ Err e
    → P (w.stop e))
    (each : (a : A) (at : ℕ) (e : Headed) → Along live s stretch Over from at → child_at live s stretch at ≡ Ok (Some e)
    → Went P (Over e) (w.visit a e))
    (lost : (at : ℕ) (e : Headed) (r : Refusal) → Along live s stretch Over from at
    → child_at live s stretch at ≡ Ok (Some e)
    → Over e → pass_over live s (end_of stretch) e ≡ Err r → P (w.stop r)) where
  pub the_walk : (a : A) → P (walk_from live s stretch w from a)
  the_walk a =
      on_the_way (child_at live s stretch) (pass_over live s (end_of stretch)) w Over from P (room_of s stretch)
      (no_room live s stretch)
      (λ at e next q p.
      let t = stepped_on live s stretch at e q in
      less_room s stretch at next t.room (pass_onward live s stretch at e next t p))
      at_the_end unread each lost (room_of s stretch from) from a (omega arith) begun

-- A step that is refused is not at the end.
pub not_ended : (live : Bool) (s : List ℕ) (stretch : Stretch) (at : ℕ) (r : Refusal)
    → child_at live s stretch at ≡ Err r → child_at live s stretch at ≡ (Ok None) → ⊥
not_ended live s stretch at r k e = let z : ◌≡◌ {A = ℕ} 0 1 = cc in omega arith

-- ---- in an element of unknown size

-- What was refused in it is a fault that its walk comes to.
abbrev Inside : List ℕ → (end : ℕ) → Headed → Result ℕ Refusal → Type 0
Inside s end e (Ok next) = Unit
Inside s end e (Err r) =
    (a : ℕ) × InUnknown s end e a × (child_at true s (Endless e.header.id end) a ≡ (Ok None) → ⊥)
    × Fault s a (to_step true) r.cause × (because r.cause a ≡ r)

unknown_fault : (s : List ℕ) (end : ℕ) (e : Headed) → Inside s end e (end_from s e.header.id end e.payload.at)
unfolding end_from
unknown_fault s end e =
    on_the_way (child_at true s stretch) (λ c. Ok (within c)) (ending s end) (λ c. Unit) e.payload.at
    (Inside s end e) (λ place. length s - place) (no_room true s stretch)
    (λ at c next q p.
    let t = stepped_on true s stretch at c q in
    let n : within c ≡ next = cc in
    let l = within_onward c at t.onward in
    less_room s stretch at next t.room (omega arith))
    (λ at a g k. tt)
    (λ at r g k.
    let (l, f, i) = step_fault true s stretch at (to_step true) refl (λ h. refl) r k in
    (at, g, not_ended true s stretch at r k, f, i))
    (λ a at c g k. tt)
    (λ at c r g k o p. let z : ◌≡◌ {A = ℕ} 0 1 = cc in absurd (let y : ⊥ = omega arith in y))
    (length s - e.payload.at) e.payload.at tt (omega arith) begun
  where
    stretch : Stretch
    stretch = Endless e.header.id end

-- A way past an element that is refused goes through one of unknown size.
pub passed_fault : (live : Bool) (s : List ℕ) (end : ℕ) (e : Headed) (r : Refusal) → pass_over live s end e ≡ Err r
    → ((live && unknown e.header) ≡ true)
    × ((a : ℕ) × InUnknown s end e a × (child_at true s (Endless e.header.id end) a ≡ (Ok None) → ⊥)
    × Fault s a (to_step true) r.cause × (because r.cause a ≡ r))
unfolding pass_over
passed_fault live s end e r q = by (live && unknown e.header) refl q
  where
    by : (b : Bool) → (live && unknown e.header) ≡ b
        → cond b (end_from s e.header.id end e.payload.at) (Ok (behind e)) ≡ Err r
        → ((live && unknown e.header) ≡ true)
        × ((a : ℕ) × InUnknown s end e a × (child_at true s (Endless e.header.id end) a ≡ (Ok None) → ⊥)
        × Fault s a (to_step true) r.cause × (because r.cause a ≡ r))
    by true k w = (k, subst (Inside s end e) w (unknown_fault s end e))
    by false k w = let z : ◌≡◌ {A = ℕ} 0 1 = cc in absurd (let y : ⊥ = omega arith in y)

-- An overrun: of both the size is known, and the child ends behind the segment.
pub overrun_known : (live : Bool) (segment e : Headed) → overruns live segment e ≡ true
    → ((live && unknown segment.header) ≡ false) × ((live && unknown e.header) ≡ false)
    × (behind segment < behind e)
unfolding overruns
overrun_known live segment e q = by (live && unknown segment.header) refl (live && unknown e.header) refl q
  where
    by : (b : Bool) → (live && unknown segment.header) ≡ b → (c : Bool) → (live && unknown e.header) ≡ c
        → cond b false (cond c false (ltb (behind segment) (behind e))) ≡ true
        → ((live && unknown segment.header) ≡ false) × ((live && unknown e.header) ≡ false)
        × (behind segment < behind e)
    by true k c l w = let z : ◌≡◌ {A = ℕ} 0 1 = cc in absurd (let y : ⊥ = omega arith in y)
    by false k true l w = let z : ◌≡◌ {A = ℕ} 0 1 = cc in absurd (let y : ⊥ = omega arith in y)
    by false k false l w = (k, l, ltb-true (behind segment) (behind e) w)

-- The place of a child is not past its stretch.
pub child_before : (live : Bool) (s : List ℕ) (stretch : Stretch) (at : ℕ) (e : Headed)
    → child_at live s stretch at ≡ Ok (Some e) → is_past s stretch at ≡ false
child_before live s stretch at e q = by (child_at live s stretch at) q (goes live s stretch at)
  where
    by : (y : Result (Option Headed) Refusal) → y ≡ Ok (Some e) → Goes live s stretch at y → is_past s stretch at ≡ false
    by (Ok (Some d)) w (element _ k h o b) = k
    by (Ok None) w g = let z : ◌≡◌ {A = ℕ} 0 1 = cc in absurd (let y : ⊥ = omega arith in y)
    by (Err r) w g = let z : ◌≡◌ {A = ℕ} 0 1 = cc in absurd (let y : ⊥ = omega arith in y)

module _ (live : Bool) (s : List ℕ) (part numbers : ℕ) where
  abbrev Here : Refusal → Type 0
  Here e = FaultThere s (SearchComes live s part numbers) e

  -- What a walk comes to is at fault.
  at_fault : (a : ℕ) (x : Errand) (c : Cause) → SearchComes live s part numbers a x → Fault s a x c → Here (because c a)
  at_fault a x c r f = record { errand = x; reached = r; fault = f }

  -- ---- before the segment

  abbrev OfFile : Result Headed Refusal → Type 0
  OfFile (Ok e) = Unit
  OfFile (Err e) = Here e

  file_fault : OfFile (segment_of live s)
  unfolding segment_of is_past ended_by
  file_fault =
      the_walk live s (Sized (length s)) seeking (λ e. e.header.id ≡ segment_id → ⊥) 0 OfFile
      (λ at a g k.
      at_fault at (to_step live) C.PastEnd (in_file at g)
      (header_fault s at (to_step live) refl C.PastEnd (past_end_law s at (at_end at k))))
      (λ at e g k.
      let (l, f, i) = step_fault live s (Sized (length s)) at (to_step live) refl (λ h. refl) e k in
      subst Here i (at_fault at (to_step live) e.cause (in_file at g) f))
      (λ a at e g k. by e (eqb e.header.id segment_id) refl)
      (λ at e r g k o p.
      let (u, there_is) = passed_fault live s (length s) e r p in
      let (a, i, n, f, j) = there_is in
      subst Here j (at_fault a (to_step true) r.cause (in_file_unknown at e a g k o u i n) f)) tt
    where
      by : (e : Headed) (b : Bool) → eqb e.header.id segment_id ≡ b
          → Went {A = Unit} OfFile (e.header.id ≡ segment_id → ⊥) (cond b (ends (Ok e)) (over tt))
      by e true q = tt
      by e false q = eqb-false e.header.id segment_id q

      at_end : (at : ℕ) → child_at live s (Sized (length s)) at ≡ (Ok None) → length s ≤ at
      at_end at k = leb-true (length s) at (by_way (child_at live s (Sized (length s)) at) k (goes live s _ at))
        where
          by_way : (y : Result (Option Headed) Refusal) → y ≡ (Ok None) → Goes live s (Sized (length s)) at y → leb (length s) at ≡ true
          by_way (Ok None) w (past p) = p
          by_way (Ok None) w (ended d p h o) = let z : ◌≡◌ {A = ℕ} 0 1 = cc in absurd (let y : ⊥ = omega arith in y)
          by_way (Ok (Some d)) w g = let z : ◌≡◌ {A = ℕ} 0 1 = cc in absurd (let y : ⊥ = omega arith in y)
          by_way (Err d) w g = let z : ◌≡◌ {A = ℕ} 0 1 = cc in absurd (let y : ⊥ = omega arith in y)

  -- ---- in the segment

  abbrev OfPlace : Lookup → Type 0
  OfPlace (found_at e heads) = Unit
  OfPlace (absent_at heads) = Unit
  OfPlace (stopped e) = Here e

  module _ (segment : Headed) (is : segment_of live s ≡ Ok segment) where
    abbrev stretch : Stretch
    stretch = stretch_of live s segment

    -- Where a segment of known size is walked over, its places are before its end.
    before_end : (live && unknown segment.header) ≡ false → (at : ℕ) → is_past s stretch at ≡ false
        → at < behind segment
    unfolding stretch_of is_past
    before_end u at k = leb_less (rw u at k)
      where
        leb_less : leb (behind segment) at ≡ false → at < behind segment
        leb_less l = leb-false (behind segment) at l

    -- A child that is refused is so on its own errand, by whether the segment's size is known.
    child_fault : (at : ℕ) (e : Refusal) → InSegment live s part segment at → child_at live s stretch at ≡ Err e
        → Here e
    child_fault at e g k = by (live && unknown segment.header) refl
      where
        by : (b : Bool) → (live && unknown segment.header) ≡ b → Here e
        by true u =
            let (l, f, i) = step_fault live s stretch at (to_step live) refl (λ h. refl) e k in
            subst Here i (at_fault at (to_step live) e.cause
            (in_endless segment at is u g (not_ended live s stretch at e k)) f)
        by false u =
            let x = to_pass live (seek_head_id ∷ part ∷ []) (behind segment - at) in
            let (l, f, i) = step_fault live s stretch at x refl (λ h. refl) e k in
            subst Here i (at_fault at x e.cause (in_segment segment at is u g (before_end u at l)) f)

    visited : (at : ℕ) (e : Headed) → InSegment live s part segment at → child_at live s stretch at ≡ Ok (Some e)
        → Went {A = Unit} OfPlace (PassedOver live part segment e)
        ((within_segment live segment (searching live s part segment)).visit tt e)
    unfolding visit member barred_step
    visited at e g k =
        by (eqb e.header.id seek_head_id) refl (eqb e.header.id part) refl (overruns live segment e) refl
      where
        t : Stepped live s stretch at e
        t = stepped_on live s stretch at e k

        begins : e.place.at ≡ at
        begins = t.begins

        other_id : eqb e.header.id seek_head_id ≡ false → eqb e.header.id part ≡ false
            → member e.header.id (seek_head_id ∷ part ∷ []) ≡ false
        other_id q m = rw (q, m) refl

        led : (p : Lookup) → by_heads live s part segment.payload.at e ≡ p → eqb e.header.id seek_head_id ≡ true
            → OfPlace p
        led (found_at x heads) q b = tt
        led (absent_at heads) q b = tt
        led (stopped r) q b =
            let found = heads_honest live s part segment.payload.at e r q in
            record {
              errand = found.errand;
              reached =
                  from_heads segment e r.address found.errand is
                  (subst (InSegment live s part segment) (sym begins) g)
                  (ap (child_at live s stretch) begins ∙ k)
                  (record { head = t.there; named = eqb-true e.header.id seek_head_id b })
                  found.reached;
              fault = found.fault;
            }

        -- An overrun: both sizes are known, and the child is larger than what was left.
        larger : eqb e.header.id seek_head_id ≡ false → eqb e.header.id part ≡ false
            → overruns live segment e ≡ true → Here (overrun at)
        larger q m n =
            let (u, v, l) = overrun_known live segment e n in
            let x = to_pass live (seek_head_id ∷ part ∷ []) (behind segment - at) in
            at_fault at x C.Overrun (in_segment segment at is u g (before_end u at (child_before live s stretch at e k)))
            (larger_passed live (seek_head_id ∷ part ∷ []) (behind segment - at) (
              e.header,
              (header_there s at e t.here).head,
              t.allowed,
              (other_id q m, v, omega (arith, t.headed, t.onward)),
            ))

        by : (b : Bool) → eqb e.header.id seek_head_id ≡ b → (c : Bool) → eqb e.header.id part ≡ c
            → (d : Bool) → overruns live segment e ≡ d
            → Went {A = Unit} OfPlace (PassedOver live part segment e)
            (on_visit
            (cond b (ends (by_heads live s part segment.payload.at e)) (cond c (ends (found_at e [])) (over tt)))
            ends (λ more. cond d (ends (stopped (overrun e.place.at))) (over more)))
        by true q c m d n = led (by_heads live s part segment.payload.at e) refl q
        by false q true m d n = tt
        by false q false m true n = subst (λ (x : ℕ). Here (overrun x)) (sym begins) (larger q m n)
        by false q false m false n =
            record {
              head = eqb-false e.header.id seek_head_id q;
              wanted = eqb-false e.header.id part m;
              within = n;
            }

    segment_fault : OfPlace (segment_children live s part segment)
    unfolding segment_children
    segment_fault =
        the_walk live s stretch (within_segment live segment (searching live s part segment))
        (PassedOver live part segment) segment.payload.at OfPlace (λ at a g k. tt)
        (λ at e g k. child_fault at e g k)
        (λ a at e g k. visited at e g k)
        (λ at e r g k o p.
        let (u, there_is) = passed_fault live s (end_of stretch) e r p in
        let (a, i, n, f, j) = there_is in
        subst Here j (at_fault a (to_step true) r.cause (in_segment_unknown segment at e a is g k o u i n) f)) tt

  pub place_fault : (e : Refusal) → lookup_of live s part ≡ stopped e → Here e
  unfolding lookup_of
  place_fault e q = by (segment_of live s) refl q file_fault
    where
      of : (p : Lookup) → p ≡ stopped e → OfPlace p → Here e
      of (found_at x heads) w f = let z : ◌≡◌ {A = ℕ} 0 1 = cc in absurd (let y : ⊥ = omega arith in y)
      of (absent_at heads) w f = let z : ◌≡◌ {A = ℕ} 0 1 = cc in absurd (let y : ⊥ = omega arith in y)
      of (stopped r) w f = let i : r ≡ e = cc in subst Here i f

      by : (x : Result Headed Refusal) → segment_of live s ≡ x → on_header x stopped (segment_children live s part) ≡ stopped e
          → OfFile x
          → Here e
      by (Ok segment) k w f = of (segment_children live s part segment) w (segment_fault segment k)
      by (Err r) k w f = let i : r ≡ e = cc in subst Here i f

  -- ---- the search

  abbrev HonestHere : Refusal → Type 0
  HonestHere e = Honest s (SearchComes live s part numbers) e

  search_honest_of : (e : Refusal) → search_of live s part numbers ≡ refused e → HonestHere e
  unfolding search_of
  search_honest_of e q = by (not (allowed s 0 numbers)) q
    where
      bad : bad_argument ≡ e → HonestHere e
      bad i = subst HonestHere i (callers (inl refl) refl)

      by_reading : (parent : ℕ) (x : Headed) (heads : List ℕ) → parent_of part ≡ Some parent
          → lookup_of live s part ≡ found_at x heads
          → (o : Outcome) → filled live s x.payload.at x.header.size parent numbers ≡ o
          → on_outcome o refused (found x.payload.at x.header.size heads) ≡ refused e → HonestHere e
      by_reading parent x heads p l (done f) k w =
          let z : ◌≡◌ {A = ℕ} 0 1 = cc in absurd (let y : ⊥ = omega arith in y)
      by_reading parent x heads p l (refused_reading r) k w =
          let i : r ≡ e = cc in
          let here = filled_found live s x.payload.at x.header.size parent numbers e (k
          ∙ ap refused_reading i) in
          there (record {
            errand = here.errand;
            reached = in_part parent x heads e.address here.errand p l here.reached;
            fault = here.fault;
          })

      by_place : (parent : ℕ) → parent_of part ≡ Some parent → (p : Lookup) → lookup_of live s part ≡ p
          → on_lookup p (λ x heads.
          on_outcome (filled live s x.payload.at x.header.size parent numbers) refused
          (found x.payload.at x.header.size heads))
          ≡ refused e
          → HonestHere e
      by_place parent p (found_at x heads) k w =
          by_reading parent x heads p k (filled live s x.payload.at x.header.size parent numbers) refl w
      by_place parent p (absent_at heads) k w =
          let z : ◌≡◌ {A = ℕ} 0 1 = cc in absurd (let y : ⊥ = omega arith in y)
      by_place parent p (stopped r) k w =
          let i : r ≡ e = cc in
          there (place_fault e (k ∙ ap stopped i))

      by_parent : (x : Option ℕ) → parent_of part ≡ x
          → on_parent x (refused bad_argument) (λ parent.
          on_lookup (lookup_of live s part) (λ y heads.
          on_outcome (filled live s y.payload.at y.header.size parent numbers) refused
          (found y.payload.at y.header.size heads)))
          ≡ refused e
          → HonestHere e
      by_parent (Some parent) k w = by_place parent k (lookup_of live s part) refl w
      by_parent None k w = bad (cc)

      by : (b : Bool)
          → cond b (refused bad_argument)
          (on_parent (parent_of part) (refused bad_argument) (λ parent.
          on_lookup (lookup_of live s part) (λ y heads.
          on_outcome (filled live s y.payload.at y.header.size parent numbers) refused
          (found y.payload.at y.header.size heads))))
          ≡ refused e
          → HonestHere e
      by true w = bad (cc)
      by false w = by_parent (parent_of part) refl w

pub search_honest : SearchHonest
search_honest live s part t e t' p = by (search_of live s part (length t)) refl p.reply
  where
    by : (x : Search) → search_of live s part (length t) ≡ x → refusal e ≡ reply_of x
        → Honest s (SearchComes live s part (length t)) e
    by (found at size heads f) k q = let z : ◌≡◌ {A = ℕ} 0 1 = cc in absurd (let y : ⊥ = omega arith in y)
    by (absent heads) k q = let z : ◌≡◌ {A = ℕ} 0 1 = cc in absurd (let y : ⊥ = omega arith in y)
    by (refused r) k q = let i : r ≡ e = cc in search_honest_of live s part (length t) e (k ∙ ap refused i)
