-- A walk over the segment's children goes from one child that it looks at to the next: the first that is met, and what
-- stands behind it (`SearchMeets`). Assumes nothing.
use Prim.Native.Nat.{ℕ, zero, suc, ◌≤◌, ◌<◌}
use mathlib.Core.Path.{◌≡◌, refl, sym, ap, ◌∙◌, subst}
use mathlib.Core.List.{List, []}
use mathlib.Core.Bool.{Bool, true, false, cond}
use native.Mathlib.Omega.{arith}
use lib.ListN.{length}
use lib.Dec.{eqb}
use borrow.Author.Tests.{ne_eqb}
use Rattle.refusals.specs.Refusals.{overrun}
use Rattle.refusals.specs.declared.refusal.Refusal.{Refusal}
use Rattle.header.specs.declared.cursor.Headed.{Headed}
use Rattle.kinds.specs.Kinds.{member}
use Rattle.walks_rules.specs.Step.{child_at, on_child}
use Rattle.walks_rules.specs.Walk.{Visit, ends, over, on_visit, on_passed, Walk}
use Rattle.walks_rules.specs.Endings.{pass_over, end_of, room_of, walk_from}
use Rattle.walks_rules.specs.declared.step.Stretch.{Stretch}
use Rattle.walks_rules.proofs.Bounds.{holds, Ended as HoldsEnded}
use Rattle.walks_rules.proofs.Steps.{Stepped, stepped_on, less_room}
use Rattle.walks_rules.proofs.Endings.{pass_onward}
use Rattle.walks_rules.proofs.Walks.{walk_unfolds}
use Rattle.seekhead_rules.specs.Seeks.{seek_head_id}
use Rattle.seekchain_rules.specs.Lookup.{Lookup, found, absent, stopped, by_heads}
use Rattle.segments_rules.specs.Segment.{stretch_of, overruns, within_segment, past_child, part_ids, aims_at}
use Rattle.segments_rules.specs.Segment.{meets, meeting, met_from, visit, searching, segment_children}
use Rattle.segments_rules.specs.Theorems.{after_met, SearchMeets}
use Rattle.segments_rules.specs.declared.walk.Aim.{Aim}
use Rattle.segments_rules.specs.declared.walk.Aim.TheVariants.{One}
use Rattle.segments_rules.specs.declared.walk.Met.TheVariants.{Head, Part}
use Rattle.std.proofs.Common.{Result, Option, Ok, Err, Some, None}
use Rattle.segments_rules.specs.declared.walk.Met.{Met}

module _ (live : Bool) (s : List ℕ) (segment : Headed) where
  abbrev stretch : Stretch
  stretch = stretch_of live s segment

  -- The place behind a child of the segment.
  abbrev pub passed : Headed → Result ℕ Refusal
  passed e = past_child live s segment e

  module _ {A B : Type 0} (w : Walk A B) where
    -- The walk from a place on.
    abbrev pub along : ℕ → A → B
    along at a = walk_from live s stretch (within_segment live segment w) at a

    -- A child that was visited, and what stands behind it.
    abbrev pub visited : Headed → Visit A B → B
    visited e v = on_visit v (λ b. b) (λ more. on_passed (passed e) w.stop (λ next. along next more))

    as_visited : (e : Headed) (v : Visit A B)
        → on_visit
        (on_visit v ends (λ more. cond (overruns live segment e) (ends (w.stop (overrun e.place.at))) (over more)))
        (λ b. b) (λ more. on_passed (pass_over live s (end_of stretch) e) w.stop (λ next. along next more))
        ≡ visited e v
    unfolding past_child
    as_visited e (ends b) = refl
    as_visited e (over more) = by (overruns live segment e)
      where
        by : (t : Bool)
            → on_visit {A = A} (cond t (ends (w.stop (overrun e.place.at))) (over more)) (λ b. b)
            (λ x. on_passed (pass_over live s (end_of stretch) e) w.stop (λ next. along next x))
            ≡ on_passed (cond t (Err (overrun e.place.at)) (pass_over live s (end_of stretch) e)) w.stop
            (λ next. along next more)
        by true = refl
        by false = refl

    -- One child after another.
    pub along_unfolds : (at : ℕ) (a : A)
        → along at a ≡ on_child (child_at live s stretch at) (w.ended at a) w.stop (λ e. visited e (w.visit a e))
    along_unfolds at a =
        walk_unfolds A B live s stretch (within_segment live segment w) at a ∙ by (child_at live s stretch at)
      where
        by : (x : Result (Option Headed) Refusal)
            → on_child x (w.ended at a) w.stop (λ e.
            on_visit ((within_segment live segment w).visit a e) (λ b. b) (λ more.
            on_passed (pass_over live s (end_of stretch) e) w.stop (λ next. along next more)))
            ≡ on_child x (w.ended at a) w.stop (λ e. visited e (w.visit a e))
        by (Ok (Some e)) = as_visited e (w.visit a e)
        by (Ok None) = refl
        by (Err r) = refl

  -- A child that is passed over leaves less room.
  pub less : (at : ℕ) (e : Headed) (next : ℕ) → child_at live s stretch at ≡ Ok (Some e) → passed e ≡ Ok next
      → room_of s stretch next < room_of s stretch at
  unfolding past_child
  less at e next q p = by (overruns live segment e) p
    where
      by : (t : Bool) → cond t (Err (overrun e.place.at)) (pass_over live s (end_of stretch) e) ≡ Ok next
          → room_of s stretch next < room_of s stretch at
      by true p = let z : ◌≡◌ {A = ℕ} 0 1 = cc in absurd (omega arith)
      by false p =
          let t = stepped_on live s stretch at e q in
          less_room s stretch at next t.room (pass_onward live s stretch at e next t p)

-- ---- the first that is met

module _ (live : Bool) (s : List ℕ) (segment : Headed) (aim : Aim) {A B : Type 0} (w : Walk A B) (a : A) (z : B)
    (at_end : (at : ℕ) → w.ended at a ≡ z)
    (skips :
    (e : Headed) → eqb e.header.id seek_head_id ≡ false → aims_at aim e.header.id ≡ false → w.visit a e ≡ over a)
  where
    abbrev pub after : Result (Option Met) Refusal → B
    after (Ok (Some (Head e))) = visited live s segment w e (w.visit a e)
    after (Ok (Some (Part e))) = visited live s segment w e (w.visit a e)
    after (Ok None) = z
    after (Err r) = w.stop r

    abbrev Meets : ℕ → Type 0
    Meets at = along live s segment w at a ≡ after (met_from live s aim segment at)

    by_turn : (at : ℕ)
        → ((e : Headed) (next : ℕ) → child_at live s (stretch_of live s segment) at ≡ Ok (Some e)
        → passed live s segment e ≡ Ok next → Meets next)
        → Meets at
    unfolding meets
    by_turn at more =
        along_unfolds live s segment w at a ∙ by (child_at live s (stretch_of live s segment) at) refl
        ∙ sym (ap after (along_unfolds live s segment (meeting aim) at tt))
      where
        by_pass : (e : Headed) → child_at live s (stretch_of live s segment) at ≡ Ok (Some e)
            → (y : Result ℕ Refusal) → passed live s segment e ≡ y
            → on_passed y w.stop (λ next. along live s segment w next a)
            ≡ after (on_passed y Err (λ next. met_from live s aim segment next))
        by_pass e q (Ok next) p = more e next q p
        by_pass e q (Err r) p = refl

        by_id : (e : Headed) → child_at live s (stretch_of live s segment) at ≡ Ok (Some e)
            → (b : Bool) → eqb e.header.id seek_head_id ≡ b → (c : Bool) → aims_at aim e.header.id ≡ c
            → visited live s segment w e (w.visit a e)
            ≡ after (visited live s segment (meeting aim) e (cond b (ends (Ok (Some (Head e)))) (cond c (ends (Ok (Some (Part e)))) (over tt))))
        by_id e q true p c o = refl
        by_id e q false p true o = refl
        by_id e q false p false o =
            ap (visited live s segment w e) (skips e p o) ∙ by_pass e q (passed live s segment e) refl

        by : (x : Result (Option Headed) Refusal) → child_at live s (stretch_of live s segment) at ≡ x
            → on_child x (w.ended at a) w.stop (λ e. visited live s segment w e (w.visit a e))
            ≡ after (on_child x (Ok None) Err (λ e. visited live s segment (meeting aim) e (meets aim e)))
        by (Ok (Some e)) q = by_id e q (eqb e.header.id seek_head_id) refl (aims_at aim e.header.id) refl
        by (Ok None) q = at_end at
        by (Err r) q = refl

    within_room : (n at : ℕ) → room_of s (stretch_of live s segment) at ≤ n → Meets at
    within_room zero at k =
        by_turn at (λ e next q p. let l = less live s segment at e next q p in absurd (omega arith))
    within_room (suc n) at k =
        by_turn at (λ e next q p.
        let l = less live s segment at e next q p in
        within_room n next (omega arith))

    -- A walk that passes over what it does not look for goes on from the first child that is met.
    pub first_met : (at : ℕ) → along live s segment w at a ≡ after (met_from live s aim segment at)
    first_met at = within_room (room_of s (stretch_of live s segment) at) at (omega arith)

-- ---- what is met

-- A child that the walk comes to from a place on.
pub record Reached (live : Bool) (s : List ℕ) (segment : Headed) (from : ℕ) (e : Headed) : Type 0 where
  pub child : child_at live s (stretch_of live s segment) e.place.at ≡ Ok (Some e)
  pub stepped : Stepped live s (stretch_of live s segment) e.place.at e
  pub room : room_of s (stretch_of live s segment) e.place.at ≤ room_of s (stretch_of live s segment) from

module _ (live : Bool) (s : List ℕ) (segment : Headed) (aim : Aim) (from : ℕ) where
  abbrev pub IsMet : Result (Option Met) Refusal → Type 0
  IsMet (Ok (Some (Head e))) = Reached live s segment from e × (eqb e.header.id seek_head_id ≡ true)
  IsMet (Ok (Some (Part e))) =
      Reached live s segment from e × (eqb e.header.id seek_head_id ≡ false) × (aims_at aim e.header.id ≡ true)
  IsMet (Ok None) = Unit
  IsMet (Err r) = Unit

  abbrev stretch' : Stretch
  stretch' = stretch_of live s segment

  reached : (at : ℕ) (e : Headed) → room_of s stretch' at ≤ room_of s stretch' from → child_at live s stretch' at ≡ Ok (Some e)
      → Reached live s segment from e
  reached at e k q =
      let t = stepped_on live s stretch' at e q in
      let b = t.begins in
      record {
        child = ap (child_at live s stretch') b ∙ q;
        stepped = stepped_on live s stretch' e.place.at e (ap (child_at live s stretch') b ∙ q);
        room = subst (λ (x : ℕ). room_of s stretch' x ≤ room_of s stretch' from) (sym b) k;
      }

  pub is_met : IsMet (met_from live s aim segment from)
  unfolding meets
  is_met =
      holds (child_at live s stretch') (pass_over live s (end_of stretch')) (within_segment live segment (meeting aim))
      IsMet (λ at. room_of s stretch' at ≤ room_of s stretch' from) (λ r. tt) (λ at a k. tt)
      (λ a at e k q. by_id e (reached at e k q) (eqb e.header.id seek_head_id) refl (aims_at aim e.header.id) refl)
      (λ at e next k q p.
      let t = stepped_on live s stretch' at e q in
      let l = less_room s stretch' at next t.room (pass_onward live s stretch' at e next t p) in
      omega arith)
      (room_of s stretch' from) from tt (omega arith)
    where
      by_over : (e : Headed) (t : Bool)
          → HoldsEnded {A = Unit} IsMet (cond t (ends (Err (overrun e.place.at))) (over tt))
      by_over e true = tt
      by_over e false = tt

      by_id : (e : Headed) → Reached live s segment from e
          → (b : Bool) → eqb e.header.id seek_head_id ≡ b → (c : Bool) → aims_at aim e.header.id ≡ c
          → HoldsEnded {A = Unit} IsMet
          (on_visit (cond b (ends (Ok (Some (Head e)))) (cond c (ends (Ok (Some (Part e)))) (over tt))) ends (λ more.
          cond (overruns live segment e) (ends (Err (overrun e.place.at))) (over more)))
      by_id e r true p c o = (r, p)
      by_id e r false p true o = (r, p, o)
      by_id e r false p false o = by_over e (overruns live segment e)

-- What an element that is met is.
pub head_met : (live : Bool) (s : List ℕ) (segment : Headed) (aim : Aim) (from : ℕ) (e : Headed)
    → met_from live s aim segment from ≡ Ok (Some (Head e))
    → Reached live s segment from e × (eqb e.header.id seek_head_id ≡ true)
head_met live s segment aim from e q =
    subst (IsMet live s segment aim from) q (is_met live s segment aim from)

pub part_met : (live : Bool) (s : List ℕ) (segment : Headed) (aim : Aim) (from : ℕ) (e : Headed)
    → met_from live s aim segment from ≡ Ok (Some (Part e))
    → Reached live s segment from e × (eqb e.header.id seek_head_id ≡ false) × (aims_at aim e.header.id ≡ true)
part_met live s segment aim from e q =
    subst (IsMet live s segment aim from) q (is_met live s segment aim from)

-- ---- ids

pub other_part : (id : ℕ) → (id ≡ 0x1549A966 → ⊥) → (id ≡ 0x1654AE6B → ⊥) → (id ≡ 0x1941A469 → ⊥)
    → (id ≡ 0x1043A770 → ⊥) → (id ≡ 0x1254C367 → ⊥) → false ≡ member id part_ids
unfolding member
other_part id a b c d e = rw (ne_eqb id _ a, ne_eqb id _ b, ne_eqb id _ c, ne_eqb id _ d, ne_eqb id _ e) refl

-- ---- the search

pub search_meets : SearchMeets
unfolding aims_at visit
search_meets live s wanted segment at =
    first_met live s segment (One wanted) (searching live s wanted segment) tt (absent []) (λ place. refl)
    (λ e p o. rw (p, o) refl) at
    ∙ by (met_from live s (One wanted) segment at) (is_met live s segment (One wanted) at)
  where
    by : (m : Result (Option Met) Refusal) → IsMet live s segment (One wanted) at m
        → after live s segment (One wanted) (searching live s wanted segment) tt (absent []) (λ place. refl)
        (λ e p o. rw (p, o) refl) m
        ≡ after_met live s wanted segment m
    by (Ok (Some (Head e))) (r, p) = rw p refl
    by (Ok (Some (Part e))) (r, p, o) = rw (p, o) refl
    by (Ok None) m = refl
    by (Err r) m = refl

-- The search in a segment, by what is met from its start on.
pub search_as : (live : Bool) (s : List ℕ) (wanted : ℕ) (segment : Headed) (m : Result (Option Met) Refusal)
    → met_from live s (One wanted) segment segment.payload.at ≡ m
    → segment_children live s wanted segment ≡ after_met live s wanted segment m
unfolding segment_children
search_as live s wanted segment m q =
    search_meets live s wanted segment segment.payload.at ∙ ap (after_met live s wanted segment) q
