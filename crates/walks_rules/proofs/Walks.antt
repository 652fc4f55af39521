-- A walk is one step after another (`WalkUnfolds`), and what holds of its answer. Assumes nothing.
use Prim.Native.Nat.{ℕ}
use mathlib.Core.List.{List}
use mathlib.Core.Bool.{Bool}
use native.Mathlib.Omega.{arith}
use Rattle.refusals.specs.declared.refusal.Refusal.{Refusal}
use Rattle.header.specs.declared.cursor.Headed.{Headed}
use Rattle.walks_rules.specs.Step.{child_at}
use Rattle.walks_rules.specs.Walk.{Walk}
use Rattle.walks_rules.specs.Endings.{pass_over, end_of, room_of, walk_from}
use Rattle.walks_rules.specs.Theorems.{WalkUnfolds}
use Rattle.walks_rules.specs.declared.step.Stretch.{Stretch}
use Rattle.walks_rules.proofs.Bounds.{unfolds, Ended, holds}
use Rattle.walks_rules.proofs.Steps.{Stepped, stepped_on, no_room, less_room}
use Rattle.walks_rules.proofs.Endings.{pass_onward}

pub walk_unfolds : WalkUnfolds
walk_unfolds A B live s stretch w at a =
    unfolds (child_at live s stretch) (pass_over live s (end_of stretch)) w (room_of s stretch)
    (no_room live s stretch)
    (λ place e next q p.
    let t = stepped_on live s stretch place e q in
    less_room s stretch place next t.room (pass_onward live s stretch place e next t p))
    (room_of s stretch at) at a (omega arith)

-- What holds of each visit, of the end and of refusals holds of a walk's answer.
pub walk_holds : {A B : Type 0} (live : Bool) (s : List ℕ) (stretch : Stretch) (w : Walk A B) (P : B → Type 0)
    → ((at : ℕ) (a : A) → P (w.ended at a)) → ((e : Refusal) → P (w.stop e))
    → ((a : A) (at : ℕ) (e : Headed) → Stepped live s stretch at e → Ended P (w.visit a e))
    → (at : ℕ) (a : A) → P (walk_from live s stretch w at a)
walk_holds live s stretch w P at_the_end refused each at a =
    holds (child_at live s stretch) (pass_over live s (end_of stretch)) w P (λ place. Unit) refused
    (λ place b k. at_the_end place b)
    (λ b place e k q. each b place e (stepped_on live s stretch place e q))
    (λ place e next k q p. tt)
    (room_of s stretch at) at a tt
