-- Where a size is known live mode steps and passes as old mode does. Assumes nothing.
use Prim.Native.Nat.{ℕ}
use mathlib.Core.Path.{◌≡◌, refl, ap}
use mathlib.Core.List.{List}
use mathlib.Core.Bool.{Bool, true, false, cond}
use lib.ListN.{drop}
use Rattle.header.specs.Header.{heading, header_of}
use Rattle.header.specs.Reads.{header_at}
use Rattle.header.specs.declared.cursor.Headed.{Headed}
use Rattle.header.specs.declared.cursor.Header.{Header}
use Rattle.header.proofs.Inside.{header_there}
use Rattle.sizes.specs.Unknown.{unknown}
use Rattle.walks_rules.specs.Answers.{on_header}
use Rattle.walks_rules.specs.Step.{is_past, ended_by, barred_step, stepped, child_at}
use Rattle.walks_rules.specs.Endings.{pass_over}
use Rattle.walks_rules.specs.declared.step.Stretch.{Stretch}
use Rattle.std.proofs.Common.{Result, Ok, Err, None}
use Rattle.refusals.specs.declared.refusal.Refusal.{Refusal}

-- The header at a place, where there is one, has a known size.
abbrev pub KnownAt : List ℕ → ℕ → Type 0
KnownAt s at = (h : Header) → header_of (drop at s) ≡ heading h → unknown h ≡ false

pub child_known : (s : List ℕ) (stretch : Stretch) (at : ℕ) → (is_past s stretch at ≡ false → KnownAt s at)
    → child_at true s stretch at ≡ child_at false s stretch at
unfolding child_at barred_step
child_known s stretch at k = by_past (is_past s stretch at) refl
  where
    by : KnownAt s at → (x : Result Headed Refusal) → header_at s at ≡ x
        → on_header x Err (λ e. cond (ended_by stretch e.header.id) (Ok None) (stepped true e))
        ≡ on_header x Err (λ e. cond (ended_by stretch e.header.id) (Ok None) (stepped false e))
    by n (Err r) q = refl
    by n (Ok e) q =
        ap (cond (ended_by stretch e.header.id) (Ok None)) (rw (n e.header (header_there s at e q).head) refl)

    by_past : (b : Bool) → is_past s stretch at ≡ b
        → cond b (Ok None) (on_header (header_at s at) Err (λ e. cond (ended_by stretch e.header.id) (Ok None) (stepped true e)))
        ≡ cond b (Ok None)
        (on_header (header_at s at) Err (λ e. cond (ended_by stretch e.header.id) (Ok None) (stepped false e)))
    by_past true q = refl
    by_past false q = by (k q) (header_at s at) refl

pub pass_known : (s : List ℕ) (end : ℕ) (e : Headed) → unknown e.header ≡ false
    → pass_over true s end e ≡ pass_over false s end e
unfolding pass_over
pass_known s end e k = rw k refl
