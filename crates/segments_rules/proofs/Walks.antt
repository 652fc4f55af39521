-- The way to the segment and the walk over its children, step by step (`SegmentUnfolds`, `ChildrenUnfold`). Assumes
-- nothing.
use Prim.Native.Nat.{ℕ, ◌+◌, ◌^◌, ◌≤◌, ◌<◌}
use mathlib.Core.Path.{◌≡◌, refl, sym, ap, ◌∙◌, subst}
use mathlib.Core.List.{List, []}
use mathlib.Core.Bool.{Bool, true, false, cond}
use native.Mathlib.Omega.{arith}
use lib.ListN.{length}
use lib.Dec.{eqb}
use Rattle.refusals.specs.Refusals.{past_end, overrun}
use Rattle.refusals.specs.declared.refusal.Refusal.{Refusal}
use Rattle.header.specs.Reads.{header_at}
use Rattle.header.specs.declared.cursor.Headed.{Headed}
use Rattle.walks_rules.specs.Step.{child_at, on_child}
use Rattle.walks_rules.specs.Walk.{Visit, ends, over, on_visit, on_passed}
use Rattle.walks_rules.specs.Endings.{pass_over, end_of, walk_from}
use Rattle.walks_rules.specs.declared.step.Stretch.TheVariants.{Sized}
use Rattle.walks_rules.proofs.Bounds.{Ended}
use Rattle.walks_rules.proofs.Steps.{Stepped}
use Rattle.walks_rules.proofs.Walks.{walk_unfolds, walk_holds}
use Rattle.seekhead_rules.specs.Seeks.{segment_id, seek_head_id}
use Rattle.seekchain_rules.specs.Lookup.{Lookup, found, absent, stopped, by_heads}
use Rattle.seekchain_rules.specs.Contract.{place_told}
use Rattle.segments_rules.specs.Segment.{seeking, segment_from, segment_of, stretch_of, overruns, within_segment}
use Rattle.segments_rules.specs.Segment.{visit, searching, segment_children_from}
use Rattle.segments_rules.specs.Theorems.{SegmentUnfolds, ChildrenUnfold}
use Rattle.segments_rules.specs.Contract.{visit_told}
use Rattle.std.proofs.Common.{Result, Option, Ok, Err, Some, None}

pub segment_unfolds : SegmentUnfolds
segment_unfolds live s at =
    walk_unfolds Unit (Result Headed Refusal) live s (Sized (length s)) seeking at tt
    ∙ by (child_at live s (Sized (length s)) at)
  where
    by_id : (b : Bool) (x y : Result Headed Refusal)
        → on_visit {A = Unit} (cond b (ends x) (over tt)) (λ r. r) (λ known. y) ≡ cond b x y
    by_id true x y = refl
    by_id false x y = refl

    by : (x : Result (Option Headed) Refusal)
        → on_child x (Err (past_end at)) Err (λ e.
        on_visit (seeking.visit tt e) (λ r. r) (λ more.
        on_passed (pass_over live s (length s) e) Err (λ next.
        walk_from live s (Sized (length s)) seeking next more)))
        ≡ on_child x (Err (past_end at)) Err (λ e.
        cond (eqb e.header.id segment_id) (Ok e)
        (on_passed (pass_over live s (length s) e) Err (segment_from live s)))
    by (Ok (Some e)) =
        by_id (eqb e.header.id segment_id) (Ok e)
        (on_passed (pass_over live s (length s) e) Err (segment_from live s))
    by (Ok None) = refl
    by (Err r) = refl

module _ (live : Bool) (s : List ℕ) (wanted : ℕ) (segment : Headed) where
  -- What stands behind a child that is passed over.
  abbrev pub rest_behind : Headed → Lookup
  rest_behind e =
      on_passed (pass_over live s (end_of (stretch_of live s segment)) e) stopped
      (segment_children_from live s wanted segment)

  abbrev seen_as : Headed → Visit Unit Lookup → Lookup
  seen_as e v =
      on_visit (on_visit v ends (λ more.
      cond (overruns live segment e) (ends (stopped (overrun e.place.at))) (over more)))
      (λ p. p) (λ more. rest_behind e)

  turned : (at : ℕ)
      → segment_children_from live s wanted segment at
      ≡ on_child (child_at live s (stretch_of live s segment) at) (absent []) stopped (λ e.
      seen_as e (visit live s wanted segment e))
  turned at =
      walk_unfolds Unit Lookup live s (stretch_of live s segment)
      (within_segment live segment (searching live s wanted segment)) at tt

  by_over : (e : Headed) (b : Bool)
      → on_visit {A = Unit} (cond b (ends (stopped (overrun e.place.at))) (over tt)) (λ p. p) (λ more. rest_behind e)
      ≡ cond b (stopped (overrun e.place.at)) (rest_behind e)
  by_over e true = refl
  by_over e false = refl

pub children_unfold : ChildrenUnfold
unfolding visit
children_unfold live s wanted segment at =
    turned live s wanted segment at ∙ by (child_at live s (stretch_of live s segment) at)
  where
    by_tests : (e : Headed) (b c t : Bool) (x y z o : Lookup)
        → on_visit {A = Unit}
        (on_visit (cond b (ends x) (cond c (ends y) (over tt))) ends (λ more. cond t (ends z) (over more)))
        (λ r. r) (λ more. o)
        ≡ cond b x (cond c y (cond t z o))
    by_tests e true c t x y z o = refl
    by_tests e false true t x y z o = refl
    by_tests e false false true x y z o = refl
    by_tests e false false false x y z o = refl

    by : (x : Result (Option Headed) Refusal)
        → on_child x (absent []) stopped (λ e. seen_as live s wanted segment e (visit live s wanted segment e))
        ≡ on_child x (absent []) stopped (λ e.
        cond (eqb e.header.id seek_head_id) (by_heads live s wanted segment.payload.at e)
        (cond (eqb e.header.id wanted) (found e [])
        (cond (overruns live segment e) (stopped (overrun e.place.at)) (rest_behind live s wanted segment e))))
    by (Ok (Some e)) =
        by_tests e (eqb e.header.id seek_head_id) (eqb e.header.id wanted) (overruns live segment e) _ _ _ _
    by (Ok None) = refl
    by (Err r) = refl

-- ---- a child that was visited

module _ (live : Bool) (s : List ℕ) (wanted : ℕ) (segment : Headed) (at : ℕ) (e : Headed)
    (q : child_at live s (stretch_of live s segment) at ≡ Ok (Some e)) where
  visited : segment_children_from live s wanted segment at
      ≡ seen_as live s wanted segment e (visit live s wanted segment e)
  visited = turned live s wanted segment at ∙ rw q refl

  pub child_ends : (p : Result (Option Headed × ℕ) Refusal) → Some p ≡ visit_told (visit live s wanted segment e)
      → p ≡ place_told (segment_children_from live s wanted segment at)
  child_ends p w = go (visit live s wanted segment e) w ∙ sym (ap place_told visited)
    where
      go : (v : Visit Unit Lookup) → Some p ≡ visit_told v → p ≡ place_told (seen_as live s wanted segment e v)
      go (ends x) w = cc
      go (over known) w = let z : ◌≡◌ {A = ℕ} 0 1 = cc in absurd (omega arith)

  pub child_over : None ≡ visit_told (visit live s wanted segment e)
      → segment_children_from live s wanted segment at
      ≡ cond (overruns live segment e) (stopped (overrun e.place.at)) (rest_behind live s wanted segment e)
  child_over w = visited ∙ go (visit live s wanted segment e) w
    where
      go : (v : Visit Unit Lookup) → None ≡ visit_told v
          → seen_as live s wanted segment e v
          ≡ cond (overruns live segment e) (stopped (overrun e.place.at)) (rest_behind live s wanted segment e)
      go (over known) w = by_over live s wanted segment e (overruns live segment e)
      go (ends x) w = let z : ◌≡◌ {A = ℕ} 0 1 = cc in absurd (omega arith)

-- ---- the segment

-- It is an element that was read.
abbrev WasRead : List ℕ → Result Headed Refusal → Type 0
WasRead s (Ok e) = header_at s e.place.at ≡ Ok e
WasRead s (Err r) = Unit

pub segment_there : (live : Bool) (s : List ℕ) (e : Headed) → segment_of live s ≡ Ok e
    → header_at s e.place.at ≡ Ok e
unfolding segment_of
segment_there live s e q =
    subst (WasRead s) q (walk_holds live s (Sized (length s)) seeking (WasRead s) (λ at a. tt) (λ r. tt)
    (λ a at x t. by x t (eqb x.header.id segment_id)) 0 tt)
  where
    by : (x : Headed) {at : ℕ} → Stepped live s (Sized (length s)) at x → (b : Bool)
        → Ended {A = Unit} (WasRead s) (cond b (ends (Ok x)) (over tt))
    by x t true = t.there
    by x t false = tt
