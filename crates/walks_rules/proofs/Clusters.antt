-- A Cluster of unknown size is gone into or passed over by its own ending alike (`ClustersPassed`). Assumes nothing.
use Prim.Native.Nat.{ℕ, zero, suc, ◌-◌, ◌<◌}
use mathlib.Core.Path.{◌≡◌, refl, sym, ap, ◌∙◌}
use mathlib.Core.List.{List}
use mathlib.Core.Bool.{Bool, true, false, cond, ◌&&◌, ◌||◌, not}
use native.Mathlib.Omega.{arith}
use lib.ListN.{length}
use lib.Dec.{leb, eqb}
use borrow.Author.Tests.{le-leb, lt-leb, leb-true, leb-false, eqb-true, not-false}
use Rattle.header.specs.Reads.{behind}
use Rattle.header.specs.declared.cursor.Headed.{Headed}
use Rattle.sizes.specs.Unknown.{unknown, cluster_id}
use Rattle.kinds.specs.Kinds.{member}
use Rattle.walks_rules.specs.Step.{file_ids, child_ids, ends_before, is_past, ended_by, barred_step, child_at, on_child}
use Rattle.walks_rules.specs.Walk.{on_passed}
use Rattle.walks_rules.specs.Endings.{ended_at, within, ending, end_from, pass_over, walk_from}
use Rattle.walks_rules.specs.Theorems.{ClustersPassed}
use Rattle.walks_rules.specs.declared.step.Stretch.{Stretch}
use Rattle.walks_rules.specs.declared.step.Stretch.TheVariants.{Endless}
use Rattle.walks_rules.proofs.Steps.{not_past, Stepped, stepped_on, less_room}
use Rattle.walks_rules.proofs.Steps.{Goes, past, unread, ended, unsized, element, goes}
use Rattle.walks_rules.proofs.Endings.{end_unfolds, pass_onward}
use Rattle.walks_rules.proofs.Walks.{walk_unfolds}
use Rattle.walks_rules.proofs.Told.{child_past, child_unread, child_unsized, child_is}
use Rattle.walks_rules.proofs.Told.{end_refused, end_there, end_further, end_less}
use Rattle.std.proofs.Common.{Result, Option, Ok, Err, Some, None}
use Rattle.refusals.specs.declared.refusal.Refusal.{Refusal}

abbrev segment_id : ℕ
segment_id = 0x18538067

module _ (s : List ℕ) (end : ℕ) where
  -- What a Segment of unknown size holds, and what a Cluster of unknown size holds.
  abbrev segment : Stretch
  segment = Endless segment_id end

  abbrev cluster : Stretch
  cluster = Endless cluster_id end

  -- ---- ids

  -- What does not end a Cluster does not end a Segment.
  held_too : (id : ℕ) → ended_by cluster id ≡ false → ended_by segment id ≡ false
  unfolding ended_by ends_before member
  held_too id o = by (member id file_ids) (member id child_ids) o
    where
      by : (x y : Bool) → (x || y) ≡ false → (x || false) ≡ false
      by true y w = w
      by false y w = refl

  -- A child of unknown size in a Segment of unknown size is a Cluster.
  is_cluster : (e : Headed) → unknown e.header ≡ true → ended_by segment e.header.id ≡ false
      → barred_step true e ≡ false → e.header.id ≡ cluster_id
  unfolding ended_by ends_before member barred_step
  is_cluster e k o b =
      eqb-true e.header.id cluster_id (by (unknown e.header) (eqb e.header.id segment_id) _ _ k o b)
    where
      by : (u x y z : Bool) → u ≡ true → ((x || y) || false) ≡ false → (u && not (x || z)) ≡ false → z ≡ true
      by true true y z i v w = let n : ◌≡◌ {A = ℕ} 0 1 = cc in absurd (omega arith)
      by true false y z i v w = not-false z w
      by false x y z i v w = let n : ◌≡◌ {A = ℕ} 0 1 = cc in absurd (omega arith)

  -- ---- where a stretch ends that is at its end at a place

  -- Of a place past the end: the known end or the recording's, where the Segment is at its end too, and ends there.
  again : (at : ℕ) → is_past s cluster at ≡ true
      → (is_past s segment (ended_at s end at) ≡ true) × (ended_at s end (ended_at s end at) ≡ ended_at s end at)
  unfolding is_past ended_at
  again at k = by (leb end at) refl (leb (length s) at) refl k
    where
      Again : ℕ → Type 0
      Again x =
          ((leb end x || leb (length s) x) ≡ true) × (cond (leb end x) end (cond (leb (length s) x) (length s) x) ≡ x)

      by : (a : Bool) → leb end at ≡ a → (b : Bool) → leb (length s) at ≡ b → (a || b) ≡ true
          → Again (cond a end (cond b (length s) at))
      by true x b y w = let l = le-leb end end (omega arith) in (rw l refl, rw l refl)
      by false x true y w =
          let i = leb-false end at x in
          let j = leb-true (length s) at y in
          let l = lt-leb end (length s) (omega arith) in
          let m = le-leb (length s) (length s) (omega arith) in
          (rw (l, m) refl, rw (l, m) refl)
      by false x false y w = let z : ◌≡◌ {A = ℕ} 0 1 = cc in absurd (omega arith)

  -- Of any other place: there.
  stays : (at : ℕ) → is_past s cluster at ≡ false → ended_at s end at ≡ at
  unfolding ended_at
  stays at k =
      let n = not_past s cluster at k in
      rw (lt-leb end at n.0, lt-leb (length s) at (omega (arith, n.1))) refl

  -- ---- a Cluster's end is on the way to the Segment's

  -- The Segment's end from a place on, each Cluster gone into.
  abbrev flat : ℕ → Result ℕ Refusal
  flat at = end_from s segment_id end at

  abbrev go_on : Result ℕ Refusal → Result ℕ Refusal
  go_on p = on_passed p Err flat

  -- The Cluster's end from a place on, and the Segment's from there.
  abbrev joined : ℕ → Result ℕ Refusal
  joined at = go_on (end_from s cluster_id end at)

  over_past : (at : ℕ) → is_past s cluster at ≡ true → flat at ≡ flat (ended_at s end at)
  unfolding is_past
  over_past at k =
      let a = again at k in
      let f = sym (child_past true s segment at k) in
      let g = sym (child_past true s segment (ended_at s end at) a.0) in
      sym (end_there s segment_id end at _ f refl) ∙ end_there s segment_id end (ended_at s end at) _ g (sym a.1)

  joins_step : (at : ℕ) → ((next : ℕ) → length s - next < length s - at → flat next ≡ joined next)
      → flat at ≡ joined at
  unfolding is_past
  joins_step at more = by (child_at true s cluster at) refl (goes true s cluster at)
    where
      by : (x : Result (Option Headed) Refusal) → child_at true s cluster at ≡ x → Goes true s cluster at x → flat at ≡ joined at
      by (Ok None) q (past k) = over_past at k ∙ ap go_on (end_there s cluster_id end at _ q refl)
      by (Ok None) q (ended e k h o) = ap flat (sym (stays at k)) ∙ ap go_on (end_there s cluster_id end at _ q refl)
      by (Err r) q (unread _ k h) =
          sym (end_refused s segment_id end at r (sym (child_unread true s segment at k r h)))
          ∙ ap go_on (end_refused s cluster_id end at r q)
      by (Err r) q (unsized e k h o b) =
          let u = sym (child_unsized true s segment at k e h (held_too e.header.id o) b) in
          sym (end_refused s segment_id end at _ u) ∙ ap go_on (end_refused s cluster_id end at _ q)
      by (Ok (Some e)) q (element _ k h o b) =
          let c = sym (child_is true s segment at k e h (held_too e.header.id o) b) in
          sym (end_further s segment_id end at e (within e) c refl)
          ∙ more (within e) (end_less s cluster_id end at e (within e) q refl)
          ∙ ap go_on (end_further s cluster_id end at e (within e) q refl)

  joins : (n at : ℕ) → length s - at < n → flat at ≡ joined at
  joins zero at l = absurd (omega arith)
  joins (suc n) at l = joins_step at (λ next k. joins n next (omega arith))

  -- ---- the two ways

  -- The Segment's end from a place on, each Cluster passed over.
  abbrev nested : ℕ → Result ℕ Refusal
  nested at = walk_from true s segment (ending s end) at tt

  -- It is one whether a child of the Segment is gone into or passed over.
  passed : (at : ℕ) (e : Headed) → Stepped true s segment at e → flat (within e) ≡ go_on (pass_over true s end e)
  unfolding within pass_over
  passed at e t = by (unknown e.header) refl
    where
      by : (b : Bool) → unknown e.header ≡ b
          → flat (cond b e.payload.at (behind e))
          ≡ go_on (cond (true && b) (end_from s e.header.id end e.payload.at) (Ok (behind e)))
      by true k =
          joins (suc (length s)) e.payload.at (omega arith)
          ∙ ap (λ (id : ℕ). go_on (end_from s id end e.payload.at)) (sym (is_cluster e k t.held t.allowed))
      by false k = refl

  same_step : (at : ℕ) → ((next : ℕ) → length s - next < length s - at → flat next ≡ nested next)
      → flat at ≡ nested at
  same_step at more =
      end_unfolds s segment_id end at
      ∙ by (child_at true s segment at) refl
      ∙ sym (walk_unfolds Unit (Result ℕ Refusal) true s segment (ending s end) at tt)
    where
      by_pass : (e : Headed) → Stepped true s segment at e → (p : Result ℕ Refusal) → pass_over true s end e ≡ p
          → go_on p ≡ on_passed p Err nested
      by_pass e t (Ok next) w =
          more next (less_room s segment at next t.room (pass_onward true s segment at e next t w))
      by_pass e t (Err r) w = refl

      by : (x : Result (Option Headed) Refusal) → child_at true s segment at ≡ x
          → on_child x (Ok (ended_at s end at)) Err (λ e. flat (within e))
          ≡ on_child x (Ok (ended_at s end at)) Err (λ e. on_passed (pass_over true s end e) Err nested)
      by (Ok (Some e)) q =
          let t = stepped_on true s segment at e q in
          passed at e t ∙ by_pass e t (pass_over true s end e) refl
      by (Ok None) q = refl
      by (Err r) q = refl

  same : (n at : ℕ) → length s - at < n → flat at ≡ nested at
  same zero at l = absurd (omega arith)
  same (suc n) at l = same_step at (λ next k. same n next (omega arith))

pub clusters_passed : ClustersPassed
clusters_passed s end at = same s end (suc (length s)) at (omega arith)
