-- The search is the same in both modes where the sizes that it reads are known (`EqualParts`). Assumes nothing.
use Prim.Native.Nat.{ℕ, zero, suc, ◌≤◌, ◌<◌}
use mathlib.Core.Path.{◌≡◌, refl, sym, ap, ◌∙◌, subst}
use mathlib.Core.List.{List, [], ◌∷◌}
use mathlib.Core.Bool.{Bool, true, false, cond, not}
use native.Mathlib.Omega.{arith}
use lib.ListN.{length, drop}
use lib.Dec.{ltb, leb, eqb}
use borrow.Author.Tests.{eqb-true, eqb-false, leb-false}
use Rattle.refusals.specs.Refusals.{overrun, bad_argument}
use Rattle.refusals.specs.declared.refusal.Refusal.{Refusal}
use Rattle.header.specs.Reads.{behind, header_at}
use Rattle.header.specs.declared.cursor.Headed.{Headed}
use Rattle.header.specs.declared.cursor.Header.{Header}
use Rattle.header.proofs.Inside.{header_there}
use Rattle.sizes.specs.Unknown.{unknown}
use Rattle.elements_rules.specs.Reading.{Outcome}
use Rattle.elements_rules.specs.Promise.{allowed, filled}
use Rattle.elements_rules.specs.Faults.{to_step, to_pass}
use Rattle.elements_rules.specs.Live.{AllKnown}
use Rattle.elements_rules.proofs.Live.{none_is_all, body_known}
use Rattle.walks_rules.specs.Answers.{on_header}
use Rattle.walks_rules.specs.Step.{is_past, child_at, on_child}
use Rattle.walks_rules.specs.Walk.{Visit, ends, over, on_visit, on_passed, Walk, walk}
use Rattle.walks_rules.specs.Endings.{pass_over, end_of, room_of, walk_from}
use Rattle.walks_rules.specs.declared.step.Stretch.{Stretch}
use Rattle.walks_rules.specs.declared.step.Stretch.TheVariants.{Sized}
use Rattle.walks_rules.proofs.Steps.{stepped_on}
use Rattle.walks_rules.proofs.Known.{KnownAt, child_known, pass_known}
use Rattle.seekhead_rules.specs.Seeks.{segment_id, seek_head_id}
use Rattle.seekchain_rules.specs.Answers.{on_outcome}
use Rattle.seekchain_rules.specs.Lookup.{Lookup, stopped}
use Rattle.seekchain_rules.specs.Lookup.{found as found_at, absent as absent_at, by_heads}
use Rattle.seekchain_rules.proofs.Live.{heads_equal}
use Rattle.segments_rules.specs.Segment.{seeking, segment_of, stretch_of, overruns, within_segment, visit, searching}
use Rattle.segments_rules.specs.Segment.{segment_children, lookup_of}
use Rattle.search_rules.specs.Part.{Search, found, refused, on_parent, on_lookup, parent_of, search_of, table_of}
use Rattle.search_rules.specs.Part.{reply_of, part_told}
use Rattle.search_rules.specs.Faults.{Walks, begun, passing, Along, ToSegment, PassedOver, InSegment, SearchComes}
use Rattle.search_rules.specs.Faults.{in_file, in_segment, from_heads, in_part}
use Rattle.search_rules.specs.Live.{EqualParts, EqualWithout}
use Rattle.search_rules.proofs.Unique.{replied, replied_back}
use Rattle.search_rules.proofs.Faults.{child_before, Went, the_walk}
use Rattle.std.proofs.Common.{Result, Option, Ok, Err, Some, None}

-- ---- two walks that go one way

module _ {A B : Type 0} (step step' : ℕ → Result (Option Headed) Refusal) (pass pass' : Headed → Result ℕ Refusal) (w w' : Walk A B)
    (Over : Headed → Type 0) (from : ℕ)
    (Ended-same : (at : ℕ) (a : A) → w'.ended at a ≡ w.ended at a)
    (stop_same : (e : Refusal) → w'.stop e ≡ w.stop e)
    (steps_same : (at : ℕ) → Walks step pass Over from at → step' at ≡ step at)
    (visits_same : (a : A) (at : ℕ) (e : Headed) → Walks step pass Over from at → step at ≡ Ok (Some e)
    → w'.visit a e ≡ w.visit a e)
    (Goes-over : (a b : A) (at : ℕ) (e : Headed) → Walks step pass Over from at → step at ≡ Ok (Some e)
    → w.visit a e ≡ over b → Over e)
    (Passes-same : (at : ℕ) (e : Headed) → Walks step pass Over from at → step at ≡ Ok (Some e) → pass' e ≡ pass e) where
  pub same_walk : (n at : ℕ) (a : A) → Walks step pass Over from at
      → walk step' pass' w' n at a ≡ walk step pass w n at a
  unfolding walk
  same_walk zero at a g = Ended-same at a
  same_walk (suc n) at a g = ap turn' (steps_same at g) ∙ by (step at) refl (same_walk n)
    where
      turn' : Result (Option Headed) Refusal → B
      turn' x =
          on_child x (w'.ended at a) w'.stop (λ e.
          on_visit (w'.visit a e) (λ b. b) (λ more.
          on_passed (pass' e) w'.stop (λ next. walk step' pass' w' n next more)))

      Onward : Type 0
      Onward = (next : ℕ) (b : A) → Walks step pass Over from next
          → walk step' pass' w' n next b ≡ walk step pass w n next b

      by_pass : (e : Headed) → step at ≡ Ok (Some e) → Over e → Onward → (b : A) (p : Result ℕ Refusal) → pass e ≡ p
          → on_passed p w'.stop (λ next. walk step' pass' w' n next b)
          ≡ on_passed p w.stop (λ next. walk step pass w n next b)
      by_pass e k o on b (Ok next) q = on next b (passing at next e g k o q)
      by_pass e k o on b (Err r) q = stop_same r

      by_visit : (e : Headed) → step at ≡ Ok (Some e) → Onward → (v : Visit A B) → w.visit a e ≡ v
          → on_visit v (λ b. b) (λ more. on_passed (pass' e) w'.stop (λ next. walk step' pass' w' n next more))
          ≡ on_visit v (λ b. b) (λ more. on_passed (pass e) w.stop (λ next. walk step pass w n next more))
      by_visit e k on (ends b) q = refl
      by_visit e k on (over b) q =
          ap (λ (p : Result ℕ Refusal). on_passed p w'.stop (λ next. walk step' pass' w' n next b)) (Passes-same at e g k)
          ∙ by_pass e k (Goes-over a b at e g k q) on b (pass e) refl

      by : (x : Result (Option Headed) Refusal) → step at ≡ x → Onward
          → turn' x
          ≡ on_child x (w.ended at a) w.stop (λ e.
          on_visit (w.visit a e) (λ b. b) (λ more. on_passed (pass e) w.stop (λ next. walk step pass w n next more)))
      by (Ok (Some e)) k on =
          ap (λ (v : Visit A B). on_visit v (λ b. b) (λ more.
          on_passed (pass' e) w'.stop (λ next. walk step' pass' w' n next more))) (visits_same a at e g k)
          ∙ by_visit e k on (w.visit a e) refl
      by (Ok None) k on = Ended-same at a
      by (Err r) k on = stop_same r

-- The size of an element at a place of known sizes.
pub of_known : (s : List ℕ) (stretch : Stretch) (at : ℕ) (e : Headed) → KnownAt s at
    → child_at false s stretch at ≡ Ok (Some e) → unknown e.header ≡ false
of_known s stretch at e n q = n e.header (header_there s at e (stepped_on false s stretch at e q).here).head

-- ---- before the segment

module _ (s : List ℕ) (in_file_law : (at : ℕ) → ToSegment false s at → KnownAt s at) where
  pub segment_known : segment_of true s ≡ segment_of false s
  unfolding segment_of
  segment_known =
      same_walk (child_at false s (Sized (length s))) (child_at true s (Sized (length s))) (pass_over false s (length s))
      (pass_over true s (length s)) seeking seeking (λ e. e.header.id ≡ segment_id → ⊥) 0 (λ at a. refl) (λ e. refl)
      (λ at g. child_known s (Sized (length s)) at (λ p. in_file_law at g))
      (λ a at e g q. refl)
      (λ a b at e g q w. not_segment a b e (eqb e.header.id segment_id) refl w)
      (λ at e g q. pass_known s (length s) e (of_known s (Sized (length s)) at e (in_file_law at g) q))
      (room_of s (Sized (length s)) 0) 0 tt begun
    where
      not_segment : (a b : Unit {0}) (e : Headed) (t : Bool) → eqb e.header.id segment_id ≡ t
          → ◌≡◌ {A = Visit (Unit {0}) (Result Headed Refusal)} (cond t (ends (Ok e)) (over a)) (over b) → e.header.id ≡ segment_id → ⊥
      not_segment a b e true q w = let z : ◌≡◌ {A = ℕ} 0 1 = cc in absurd (let y : ⊥ = omega arith in y)
      not_segment a b e false q w = eqb-false e.header.id segment_id q

  -- The segment has a known size.
  abbrev pub Sizes : Result Headed Refusal → Type 0
  Sizes (Ok e) = unknown e.header ≡ false
  Sizes (Err r) = Unit

  pub segment_sized : Sizes (segment_of false s)
  unfolding segment_of
  segment_sized =
      the_walk false s (Sized (length s)) seeking (λ e. e.header.id ≡ segment_id → ⊥) 0 Sizes
      (λ at a g q. tt) (λ at e g q. tt)
      (λ a at e g q. by e (of_known s (Sized (length s)) at e (in_file_law at g) q) (eqb e.header.id segment_id) refl)
      (λ at e r g q o p. tt) tt
    where
      by : (e : Headed) → unknown e.header ≡ false → (b : Bool) → eqb e.header.id segment_id ≡ b
          → Went {A = Unit} Sizes (e.header.id ≡ segment_id → ⊥) (cond b (ends (Ok e)) (over tt))
      by e u true q = u
      by e u false q = eqb-false e.header.id segment_id q

module _ (s : List ℕ) (part numbers : ℕ) (k : AllKnown s (SearchComes false s part numbers)) where
  in_file_law : (at : ℕ) → ToSegment false s at → KnownAt s at
  in_file_law at g h q = k at (to_step false) h (in_file at g) refl q

  -- ---- in the segment

  module _ (segment : Headed) (is : segment_of false s ≡ Ok segment) (u : unknown segment.header ≡ false) where
    abbrev stretch : Stretch
    stretch = Sized (behind segment)

    stretch_same : stretch_of true s segment ≡ stretch
    unfolding stretch_of
    stretch_same = rw u refl

    abbrev On : ℕ → Type 0
    On at = Along false s stretch (PassedOver false part segment) segment.payload.at at

    in_segment_law : (at : ℕ) → On at → is_past s stretch at ≡ false → KnownAt s at
    unfolding is_past stretch_of
    in_segment_law at g p h q =
        k at (to_pass false (seek_head_id ∷ part ∷ []) _) h
        (in_segment segment at is refl g (leb-false (behind segment) at p)) refl q

    child_sized : (at : ℕ) (e : Headed) → On at → child_at false s stretch at ≡ Ok (Some e) → unknown e.header ≡ false
    child_sized at e g q = of_known s stretch at e (in_segment_law at g (child_before false s stretch at e q)) q

    heads_same : (at : ℕ) (e : Headed) → On at → child_at false s stretch at ≡ Ok (Some e) → e.header.id ≡ seek_head_id
        → by_heads true s part segment.payload.at e ≡ by_heads false s part segment.payload.at e
    unfolding stretch_of
    heads_same at e g q i =
        let t = stepped_on false s stretch at e q in
        heads_equal s part segment.payload.at e (λ a x h c r w.
        k a x h
        (from_heads segment e a x is (subst On (sym t.begins) g) (ap (child_at false s stretch) t.begins ∙ q)
        (record { head = t.there; named = i }) c) r w)

    visit_same : (at : ℕ) (e : Headed) → On at → child_at false s stretch at ≡ Ok (Some e)
        → visit true s part segment e ≡ visit false s part segment e
    unfolding visit
    visit_same at e g q = by (eqb e.header.id seek_head_id) refl
      where
        by : (b : Bool) → eqb e.header.id seek_head_id ≡ b
            → cond {A = Visit (Unit {0}) Lookup} b (ends (by_heads true s part segment.payload.at e))
            (cond (eqb e.header.id part) (ends (found_at e [])) (over tt))
            ≡ cond b (ends (by_heads false s part segment.payload.at e))
            (cond (eqb e.header.id part) (ends (found_at e [])) (over tt))
        by true i = ap ends (heads_same at e g q (eqb-true e.header.id seek_head_id i))
        by false i = refl

    overruns_same : (at : ℕ) (e : Headed) → On at → child_at false s stretch at ≡ Ok (Some e)
        → overruns true segment e ≡ overruns false segment e
    unfolding overruns
    overruns_same at e g q = rw (u, child_sized at e g q) refl

    within_same : (at : ℕ) (e : Headed) → On at → child_at false s stretch at ≡ Ok (Some e)
        → (within_segment true segment (searching true s part segment)).visit tt e
        ≡ (within_segment false segment (searching false s part segment)).visit tt e
    within_same at e g q = rw (visit_same at e g q, overruns_same at e g q) refl

    -- A child that is passed over is one that the way goes over.
    gone_over : (e : Headed) → (within_segment false segment (searching false s part segment)).visit tt e ≡ over tt
        → PassedOver false part segment e
    unfolding visit
    gone_over e w =
        by (eqb e.header.id seek_head_id) refl (eqb e.header.id part) refl (overruns false segment e) refl w
      where
        by : (b : Bool) → eqb e.header.id seek_head_id ≡ b → (c : Bool) → eqb e.header.id part ≡ c
            → (d : Bool) → overruns false segment e ≡ d
            → on_visit {A = Unit}
            (cond b (ends (by_heads false s part segment.payload.at e)) (cond c (ends (found_at e [])) (over tt)))
            ends (λ more. cond d (ends (stopped (overrun e.place.at))) (over more))
            ≡ over tt
            → PassedOver false part segment e
        by true i c m d n v = let z : ◌≡◌ {A = ℕ} 0 1 = cc in absurd (let y : ⊥ = omega arith in y)
        by false i true m d n v = let z : ◌≡◌ {A = ℕ} 0 1 = cc in absurd (let y : ⊥ = omega arith in y)
        by false i false m true n v = let z : ◌≡◌ {A = ℕ} 0 1 = cc in absurd (let y : ⊥ = omega arith in y)
        by false i false m false n v =
            record {
              head = eqb-false e.header.id seek_head_id i;
              wanted = eqb-false e.header.id part m;
              within = n;
            }

    children_same : segment_children true s part segment ≡ segment_children false s part segment
    unfolding segment_children stretch_of
    children_same =
        ap (λ (y : Stretch).
        walk_from true s y (within_segment true segment (searching true s part segment)) segment.payload.at tt)
        stretch_same
        ∙ same_walk (child_at false s stretch) (child_at true s stretch) (pass_over false s (behind segment))
        (pass_over true s (behind segment)) (within_segment false segment (searching false s part segment))
        (within_segment true segment (searching true s part segment)) (PassedOver false part segment)
        segment.payload.at (λ at a. refl) (λ e. refl)
        (λ at g. child_known s stretch at (in_segment_law at g))
        (λ a at e g q. within_same at e g q)
        (λ a b at e g q w. gone_over e w)
        (λ at e g q. pass_known s (behind segment) e (child_sized at e g q))
        (room_of s stretch segment.payload.at) segment.payload.at tt begun

  lookup_same : lookup_of true s part ≡ lookup_of false s part
  unfolding lookup_of
  lookup_same =
      ap (λ (x : Result Headed Refusal). on_header x stopped (segment_children true s part)) (segment_known s in_file_law)
      ∙ by (segment_of false s) refl (segment_sized s in_file_law)
    where
      by : (x : Result Headed Refusal) → segment_of false s ≡ x → Sizes s in_file_law x
          → on_header x stopped (segment_children true s part) ≡ on_header x stopped (segment_children false s part)
      by (Ok segment) is u = children_same segment is u
      by (Err r) is u = refl

  -- ---- the part

  part_same : (parent : ℕ) → parent_of part ≡ Some parent → (p : Lookup) → lookup_of false s part ≡ p
      → on_lookup p (λ e heads.
      on_outcome (filled true s e.payload.at e.header.size parent numbers) refused
      (found e.payload.at e.header.size heads))
      ≡ on_lookup p (λ e heads.
      on_outcome (filled false s e.payload.at e.header.size parent numbers) refused
      (found e.payload.at e.header.size heads))
  unfolding filled
  part_same parent i (found_at e heads) q =
      ap (λ (o : Outcome). on_outcome o refused (found e.payload.at e.header.size heads))
      (body_known s true _ 0 parent e.payload.at e.header.size 0 (omega arith) (λ a x h c r w.
      k a x h (in_part parent e heads a x i q c) r w))
  part_same parent i (absent_at heads) q = refl
  part_same parent i (stopped r) q = refl

  -- A search whose arguments are allowed.
  asked_same : (parent : ℕ) → parent_of part ≡ Some parent
      → on_lookup (lookup_of true s part) (λ e heads.
      on_outcome (filled true s e.payload.at e.header.size parent numbers) refused
      (found e.payload.at e.header.size heads))
      ≡ on_lookup (lookup_of false s part) (λ e heads.
      on_outcome (filled false s e.payload.at e.header.size parent numbers) refused
      (found e.payload.at e.header.size heads))
  asked_same parent i =
      ap (λ (p : Lookup). on_lookup p (λ e heads.
      on_outcome (filled true s e.payload.at e.header.size parent numbers) refused
      (found e.payload.at e.header.size heads))) lookup_same
      ∙ part_same parent i (lookup_of false s part) refl

search_same : (s : List ℕ) (part numbers : ℕ)
    → (allowed s 0 numbers ≡ true → (parent : ℕ) → parent_of part ≡ Some parent
    → AllKnown s (SearchComes false s part numbers))
    → search_of true s part numbers ≡ search_of false s part numbers
unfolding search_of
search_same s part numbers k = by (allowed s 0 numbers) refl (parent_of part) refl
  where
    searched : Bool → ℕ → Search
    searched live parent =
        on_lookup (lookup_of live s part) (λ e heads.
        on_outcome (filled live s e.payload.at e.header.size parent numbers) refused
        (found e.payload.at e.header.size heads))

    by : (b : Bool) → allowed s 0 numbers ≡ b → (x : Option ℕ) → parent_of part ≡ x
        → cond (not b) (refused bad_argument) (on_parent x (refused bad_argument) (searched true))
        ≡ cond (not b) (refused bad_argument) (on_parent x (refused bad_argument) (searched false))
    by true a (Some parent) i = asked_same s part numbers (k a parent i) parent i
    by true a None i = refl
    by false a x i = refl

pub equal_parts : EqualParts
equal_parts s part t r r' t' u' k p q =
    let e = search_same s part (length t) k in (
      sym (replied_back r') ∙ ap replied (q.reply ∙ ap reply_of e ∙ sym p.reply) ∙ replied_back r,
      q.table ∙ ap (table_of (length t)) e ∙ sym p.table,
    )

pub equal_without : EqualWithout
equal_without s part t r r' t' u' n p q = equal_parts s part t r r' t' u' (λ a parent i. none_is_all s _ n) p q
