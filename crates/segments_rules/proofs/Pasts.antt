-- The way past a child of the segment, by what the segment holds (`PastIn`). Assumes nothing.
use Prim.Native.Nat.{ℕ}
use mathlib.Core.Path.{◌≡◌, refl, sym, ap, ◌∙◌}
use mathlib.Core.List.{List}
use mathlib.Core.Bool.{Bool, true, false, cond, ◌&&◌}
use native.Mathlib.Omega.{arith}
use lib.ListN.{length}
use lib.Dec.{ltb}
use Rattle.refusals.specs.Refusals.{overrun}
use Rattle.header.specs.Reads.{behind}
use Rattle.header.specs.declared.cursor.Headed.{Headed}
use Rattle.sizes.specs.Unknown.{unknown}
use Rattle.walks_rules.specs.Endings.{pass_over, end_of}
use Rattle.walks_rules.specs.declared.step.Stretch.{Stretch}
use Rattle.walks_rules.specs.declared.step.Stretch.TheVariants.{Sized, Endless}
use Rattle.seekhead_rules.specs.Seeks.{segment_id}
use Rattle.segments_rules.specs.Segment.{stretch_of, overruns, past_child}
use Rattle.segments_rules.specs.Contract.{PastIn}
use Rattle.std.proofs.Common.{Result, Ok, Err}
use Rattle.refusals.specs.declared.refusal.Refusal.{Refusal}

-- What a segment holds tells whether its size is known, and its end.
sized_known : (live : Bool) (s : List ℕ) (segment : Headed) (end : ℕ) → Sized end ≡ stretch_of live s segment
    → ((live && unknown segment.header) ≡ false) × (end ≡ behind segment)
unfolding stretch_of
sized_known live s segment end q = by (live && unknown segment.header) refl q
  where
    by : (b : Bool) → (live && unknown segment.header) ≡ b
        → Sized end ≡ cond b (Endless segment_id (length s)) (Sized (behind segment))
        → ((live && unknown segment.header) ≡ false) × (end ≡ behind segment)
    by true k w = let z : ◌≡◌ {A = ℕ} 0 1 = cc in absurd (let y : ⊥ = omega arith in y)
    by false k w = (k, cc)

endless_unknown : (live : Bool) (s : List ℕ) (segment : Headed) (id end : ℕ) → Endless id end ≡ stretch_of live s segment
    → (live && unknown segment.header) ≡ true
unfolding stretch_of
endless_unknown live s segment id end q = by (live && unknown segment.header) refl q
  where
    by : (b : Bool) → (live && unknown segment.header) ≡ b
        → Endless id end ≡ cond b (Endless segment_id (length s)) (Sized (behind segment))
        → (live && unknown segment.header) ≡ true
    by true k w = k
    by false k w = let z : ◌≡◌ {A = ℕ} 0 1 = cc in absurd (let y : ⊥ = omega arith in y)

module _ (live : Bool) (s : List ℕ) (e : Headed) where
  -- A child of unknown size ends where it ends.
  pub past_unknown : (live && unknown e.header) ≡ true → (stretch : Stretch) (end : ℕ) → end ≡ end_of stretch
      → (r : Result ℕ Refusal) → r ≡ pass_over live s end e → PastIn live s stretch e r
  unfolding past_child overruns
  past_unknown u stretch end j r w segment q =
      w ∙ ap (λ (x : ℕ). pass_over live s x e) (j ∙ ap end_of q) ∙ rw u (by (live && unknown segment.header))
    where
      by : (b : Bool)
          → pass_over live s (end_of (stretch_of live s segment)) e
          ≡ cond (cond b false false) (Err (overrun e.place.at))
          (pass_over live s (end_of (stretch_of live s segment)) e)
      by true = refl
      by false = refl

  module _ (k : (live && unknown e.header) ≡ false) where
    pub past_larger : (end : ℕ) → ltb end (behind e) ≡ true
        → PastIn live s (Sized end) e (Err (overrun e.place.at))
    unfolding past_child overruns
    past_larger end l segment q =
        let (u, i) = sized_known live s segment end q in
        let m : ltb (behind segment) (behind e) ≡ true = ap (λ (x : ℕ). ltb x (behind e)) (sym i) ∙ l in
        rw (u, k, m) refl

    pub past_within : (end : ℕ) → ltb end (behind e) ≡ false → PastIn live s (Sized end) e (Ok (behind e))
    unfolding past_child overruns pass_over
    past_within end l segment q =
        let (u, i) = sized_known live s segment end q in
        let m : ltb (behind segment) (behind e) ≡ false = ap (λ (x : ℕ). ltb x (behind e)) (sym i) ∙ l in
        rw (u, k, m) refl

    pub past_endless : (id end : ℕ) → PastIn live s (Endless id end) e (Ok (behind e))
    unfolding past_child overruns pass_over
    past_endless id end segment q =
        let u = endless_unknown live s segment id end q in
        rw (u, k) refl
