-- Where a search finds a part: the heads are seek heads at different addresses and not too many, and the part was met
-- in the walk or is named by an entry. Assumes nothing.
use Prim.Native.Nat.{ℕ, ◌+◌, ◌≤◌}
use mathlib.Core.Path.{◌≡◌, refl, subst}
use mathlib.Core.List.{List, []}
use mathlib.Core.Bool.{Bool, true, false, cond}
use native.Mathlib.Omega.{arith}
use lib.ListN.{length}
use lib.Dec.{ltb, eqb}
use borrow.Author.Tests.{eqb-true}
use Rattle.refusals.specs.Refusals.{overrun}
use Rattle.refusals.specs.declared.refusal.Refusal.{Refusal}
use Rattle.header.specs.Reads.{header_at}
use Rattle.header.specs.declared.cursor.Headed.{Headed}
use Rattle.header.proofs.Inside.{header_there}
use Rattle.seekhead_rules.specs.Seeks.{seek_head_id}
use Rattle.walks_rules.specs.Answers.{on_header}
use Rattle.seekchain_rules.specs.Lookup.{Lookup, found, absent, stopped, by_heads}
use Rattle.seekchain_rules.specs.Theorems.{IsAt, AreHeads, Distinct, GoodHeads, ByHeads}
use Rattle.seekchain_rules.proofs.Leads.{heads_lead}
use Rattle.header.specs.Reads.{behind}
use Rattle.walks_rules.specs.Walk.{Visit, ends, over, on_visit}
use Rattle.segments_rules.specs.Segment.{stretch_of, overruns, segment_of, within_segment, visit, searching}
use Rattle.segments_rules.specs.Segment.{segment_children, lookup_of}
use Rattle.walks_rules.proofs.Bounds.{Ended}
use Rattle.walks_rules.proofs.Walks.{walk_holds}
use Rattle.search_rules.specs.Theorems.{FoundWay, met, named, FoundBy}
use Rattle.std.proofs.Common.{Result, Ok, Err}

-- No head at all.
pub none_read : (live : Bool) (s : List ℕ) → GoodHeads live s []
unfolding AreHeads Distinct
none_read live s = record { are = tt; distinct = tt; few = omega arith }

-- What a place in a segment is: found one way or the other, or absent, with good heads.
abbrev Trusty : (live : Bool) → List ℕ → ℕ → ℕ → Lookup → Type 0
Trusty live s wanted start (found part heads) = FoundWay live s wanted start part heads × GoodHeads live s heads
Trusty live s wanted start (absent heads) = GoodHeads live s heads
Trusty live s wanted start (stopped e) = Unit

-- The same of the whole recording.
abbrev pub Placed : (live : Bool) → List ℕ → ℕ → Lookup → Type 0
Placed live s wanted (found part heads) = FoundBy live s wanted part.payload.at part.header.size heads
    × GoodHeads live s heads
Placed live s wanted (absent heads) = GoodHeads live s heads
Placed live s wanted (stopped e) = Unit

module _ (live : Bool) (s : List ℕ) (wanted : ℕ) (segment : Headed) where
  abbrev start : ℕ
  start = segment.payload.at

  -- What the heads lead to.
  led : (first : Headed) → IsAt s seek_head_id first.place.at first
      → (p : Lookup) → ByHeads live s wanted start first p → Trusty live s wanted start p
  led first i (found part heads) b = (named first i b.0, b.1)
  led first i (absent heads) b = b.1
  led first i (stopped e) b = tt

  -- What a child ends the search with.
  visited : (e : Headed) → header_at s e.place.at ≡ Ok e
      → Ended (Trusty live s wanted start) (visit live s wanted segment e)
  unfolding visit
  visited e q = by (eqb e.header.id seek_head_id) refl (eqb e.header.id wanted) refl
    where
      by : (b : Bool) → eqb e.header.id seek_head_id ≡ b → (c : Bool) → eqb e.header.id wanted ≡ c
          → Ended {A = Unit} (Trusty live s wanted start)
          (cond b (ends (by_heads live s wanted start e)) (cond c (ends (found e [])) (over tt)))
      by true k c l =
          let i : IsAt s seek_head_id e.place.at e
          = record { head = q; named = eqb-true e.header.id seek_head_id k } in
          led e i (by_heads live s wanted start e) (heads_lead live s wanted start e i)
      by false k true l =
          (met (record { head = q; named = eqb-true e.header.id wanted l }) refl, none_read live s)
      by false k false l = tt

  -- An overrun is no place.
  kept : (v : Visit Unit Lookup) (b : Bool) (r : Refusal) → Ended (Trusty live s wanted start) v
      → Ended {A = Unit} (Trusty live s wanted start)
      (on_visit v ends (λ more. cond b (ends (stopped r)) (over more)))
  kept (ends p) b r t = t
  kept (over known) true r t = tt
  kept (over known) false r t = tt

  children_trusty : Trusty live s wanted start (segment_children live s wanted segment)
  unfolding segment_children
  children_trusty =
      walk_holds live s (stretch_of live s segment) (within_segment live segment (searching live s wanted segment))
      (Trusty live s wanted start) (λ at known. none_read live s) (λ e. tt)
      (λ known at e t.
      kept (visit live s wanted segment e) (overruns live segment e) (overrun e.place.at) (visited e t.there))
      start tt

module _ (live : Bool) (s : List ℕ) (wanted : ℕ) where
  pub place_trusty : Placed live s wanted (lookup_of live s wanted)
  unfolding lookup_of
  place_trusty = go (segment_of live s) refl
    where
      in_segment_law : (e : Headed) → segment_of live s ≡ Ok e → (p : Lookup) → Trusty live s wanted e.payload.at p
          → Placed live s wanted p
      in_segment_law e q (found part heads) t =
          (record { part = part; payload = refl; sized = refl; segment = e; is_segment = q; way = t.0 }, t.1)
      in_segment_law e q (absent heads) t = t
      in_segment_law e q (stopped r) t = tt

      go : (x : Result Headed Refusal) → segment_of live s ≡ x
          → Placed live s wanted (on_header x stopped (segment_children live s wanted))
      go (Err e) q = tt
      go (Ok e) q = in_segment_law e q (segment_children live s wanted e) (children_trusty live s wanted e)

  -- ---- where a part was found

  pub found_part : (part : Headed) (heads : List ℕ) → lookup_of live s wanted ≡ found part heads
      → FoundBy live s wanted part.payload.at part.header.size heads
  found_part part heads q = (subst (Placed live s wanted) q place_trusty).0

  -- Its payload starts in the recording.
  pub found_inside : (part : Headed) (heads : List ℕ) → lookup_of live s wanted ≡ found part heads
      → part.payload.at ≤ length s
  found_inside part heads q =
      let f = found_part part heads q in
      let p = by f.part f.way in
      omega (arith, f.payload)
    where
      by : {start : ℕ} (x : Headed) → FoundWay live s wanted start x heads → x.payload.at ≤ length s
      by x (met i n) = (header_there s x.place.at x i.head).inside
      by {start} x (named first f n) = (header_there s (start + n.position) x n.is.head).inside
