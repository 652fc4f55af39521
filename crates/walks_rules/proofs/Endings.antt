-- The end of an element of unknown size is behind its header (`EndUnfolds`). Assumes nothing.
use Prim.Native.Nat.{ℕ, ◌-◌, ◌<◌}
use mathlib.Core.Path.{◌≡◌, subst}
use mathlib.Core.List.{List}
use mathlib.Core.Bool.{Bool, true, false, cond, ◌&&◌}
use native.Mathlib.Omega.{arith}
use lib.ListN.{length}
use lib.Dec.{leb}
use Rattle.refusals.specs.declared.refusal.Refusal.{Refusal}
use Rattle.header.specs.Reads.{behind}
use Rattle.header.specs.declared.cursor.Headed.{Headed}
use Rattle.sizes.specs.Unknown.{unknown}
use Rattle.walks_rules.specs.Step.{child_at}
use Rattle.walks_rules.specs.Endings.{ended_at, within, ending, end_from, pass_over, end_of}
use Rattle.walks_rules.specs.Theorems.{EndUnfolds}
use Rattle.walks_rules.specs.declared.step.Stretch.{Stretch}
use Rattle.walks_rules.specs.declared.step.Stretch.TheVariants.{Endless}
use Rattle.walks_rules.proofs.Bounds.{unfolds, holds}
use Rattle.walks_rules.proofs.Steps.{Stepped, stepped_on, no_room, less_room}
use Rattle.std.proofs.Common.{Result, Ok}

-- A child of an element of unknown size takes a byte at least.
pub within_onward : (e : Headed) (at : ℕ) → at < e.payload.at → at < within e
unfolding within
within_onward e at l = by (unknown e.header)
  where
    by : (b : Bool) → at < cond b e.payload.at (behind e)
    by true = l
    by false = omega arith

placed : (x y : ℕ) → ◌≡◌ {A = Result ℕ Refusal} (Ok x) (Ok y) → x ≡ y
placed x y q = cc

pub end_unfolds : EndUnfolds
unfolding end_from
end_unfolds s id end at =
    unfolds (child_at true s (Endless id end)) (λ e. Ok (within e)) (ending s end) (λ place. length s - place)
    (λ place z. no_room true s (Endless id end) place z)
    (λ place e next q p.
    let t = stepped_on true s (Endless id end) place e q in
    let n = placed (within e) next p in
    let l = within_onward e place t.onward in
    less_room s (Endless id end) place next t.room (omega arith))
    (length s - at) at tt (omega arith)

-- Behind whatever stands before both ends and before the place, the end is.
ended_behind : (s : List ℕ) (end at low : ℕ) → low < end → low < length s → low < at → low < ended_at s end at
unfolding ended_at
ended_behind s end at low a b c = by (leb end at) (leb (length s) at)
  where
    by : (x y : Bool) → low < cond x end (cond y (length s) at)
    by true y = a
    by false true = b
    by false false = c

pub end_behind : (s : List ℕ) (id end at low next : ℕ) → low < end → low < length s → low < at
    → end_from s id end at ≡ Ok next → low < next
unfolding end_from
end_behind s id end at low next a b c q =
    holds (child_at true s (Endless id end)) (λ e. Ok (within e)) (ending s end)
    (λ r. (place : ℕ) → r ≡ Ok place → low < place) (λ place. low < place)
    (λ e place w. let z : ◌≡◌ {A = ℕ} 0 1 = cc in absurd (let y : ⊥ = omega arith in y))
    (λ place k l there w. subst (λ (x : ℕ). low < x) (placed _ there w) (ended_behind s end place low a b l))
    (λ k place e l w. tt)
    (λ place e there l w p.
    let t = stepped_on true s (Endless id end) place e w in
    let n = placed (within e) there p in
    let m = within_onward e place t.onward in
    omega arith)
    (length s - at) at tt c next q

-- The place behind an element of a stretch is behind its own.
pub pass_onward : (live : Bool) (s : List ℕ) (stretch : Stretch) (at : ℕ) (e : Headed) (next : ℕ)
    → Stepped live s stretch at e → pass_over live s (end_of stretch) e ≡ Ok next → at < next
unfolding pass_over
pass_onward live s stretch at e next t q = by (live && unknown e.header) q
  where
    by : (b : Bool) → cond b (end_from s e.header.id (end_of stretch) e.payload.at) (Ok (behind e)) ≡ Ok next
        → at < next
    by true w =
        end_behind s e.header.id (end_of stretch) e.payload.at at next t.before
        (omega (arith, t.onward, t.inside)) t.onward w
    by false w = let n = placed (behind e) next w in omega (arith, t.onward)
