-- A walk whose places have less and less room is one step after another, and what holds of its answer. Assumes nothing.
use Prim.Native.Nat.{ℕ, zero, suc, ◌≤◌, ◌<◌}
use mathlib.Core.Path.{◌≡◌, refl}
use native.Mathlib.Omega.{arith}
use Rattle.refusals.specs.declared.refusal.Refusal.{Refusal}
use Rattle.header.specs.declared.cursor.Headed.{Headed}
use Rattle.walks_rules.specs.Step.{on_child}
use Rattle.walks_rules.specs.Walk.{Visit, ends, over, on_visit, on_passed, Walk, walk}
use Rattle.std.proofs.Common.{Result, Option, Ok, Err, Some, None}

module _ {A B : Type 0} (step : ℕ → Result (Option Headed) Refusal) (pass : Headed → Result ℕ Refusal) (w : Walk A B) where
  -- One step, and what follows it.
  abbrev pub turn : ℕ → A → Result (Option Headed) Refusal → (ℕ → A → B) → B
  turn at a x next =
      on_child x (w.ended at a) w.stop (λ e.
      on_visit (w.visit a e) (λ b. b) (λ more. on_passed (pass e) w.stop (λ place. next place more)))

  -- Two ways on that are equal at each next place.
  alike : (at : ℕ) (a : A) (f g : ℕ → A → B)
      → ((e : Headed) (next : ℕ) (b : A) → step at ≡ Ok (Some e) → pass e ≡ Ok next → f next b ≡ g next b)
      → turn at a (step at) f ≡ turn at a (step at) g
  alike at a f g h = by (step at) refl
    where
      by_pass : (e : Headed) → step at ≡ Ok (Some e) → (b : A) (p : Result ℕ Refusal) → pass e ≡ p
          → on_passed p w.stop (λ next. f next b) ≡ on_passed p w.stop (λ next. g next b)
      by_pass e q b (Ok next) k = h e next b q k
      by_pass e q b (Err r) k = refl

      by_visit : (e : Headed) → step at ≡ Ok (Some e) → (v : Visit A B)
          → on_visit v (λ b. b) (λ more. on_passed (pass e) w.stop (λ next. f next more))
          ≡ on_visit v (λ b. b) (λ more. on_passed (pass e) w.stop (λ next. g next more))
      by_visit e q (ends b) = refl
      by_visit e q (over b) = by_pass e q b (pass e) refl

      by : (x : Result (Option Headed) Refusal) → step at ≡ x → turn at a x f ≡ turn at a x g
      by (Ok (Some e)) q = by_visit e q (w.visit a e)
      by (Ok None) q = refl
      by (Err r) q = refl

  module _ (room : ℕ → ℕ) (closed : (at : ℕ) → room at ≡ 0 → step at ≡ (Ok None))
      (ahead : (at : ℕ) (e : Headed) (next : ℕ) → step at ≡ Ok (Some e) → pass e ≡ Ok next → room next < room at) where
    -- A bound that is large enough changes nothing.
    enough : (m n at : ℕ) (a : A) → room at ≤ m → room at ≤ n → walk step pass w m at a ≡ walk step pass w n at a
    unfolding walk
    enough zero zero at a k l = refl
    enough zero (suc n) at a k l = rw (closed at (omega arith)) refl
    enough (suc m) zero at a k l = rw (closed at (omega arith)) refl
    enough (suc m) (suc n) at a k l =
        alike at a (walk step pass w m) (walk step pass w n) (λ e next b q p.
        let less = ahead at e next q p in
        enough m n next b (omega arith) (omega arith))

    pub unfolds : (n at : ℕ) (a : A) → room at ≤ n
        → walk step pass w n at a ≡ turn at a (step at) (λ next more. walk step pass w (room next) next more)
    unfolding walk
    unfolds zero at a k = rw (closed at (omega arith)) refl
    unfolds (suc n) at a k =
        alike at a (walk step pass w n) (λ next more. walk step pass w (room next) next more) (λ e next b q p.
        let less = ahead at e next q p in
        enough n (room next) next b (omega arith) (omega arith))

-- ---- what holds of a walk's answer

-- What is to hold of an answer holds where a visit ends the walk with it.
abbrev pub Ended : {A B : Type 0} → (B → Type 0) → Visit A B → Type 0
Ended P (ends b) = P b
Ended P (over a) = Unit

module _ {A B : Type 0} (step : ℕ → Result (Option Headed) Refusal) (pass : Headed → Result ℕ Refusal) (w : Walk A B) (P : B → Type 0)
    (Place : ℕ → Type 0) (refused : (e : Refusal) → P (w.stop e))
    (at_the_end : (at : ℕ) (a : A) → Place at → P (w.ended at a))
    (each : (a : A) (at : ℕ) (e : Headed) → Place at → step at ≡ Ok (Some e) → Ended P (w.visit a e))
    (further : (at : ℕ) (e : Headed) (next : ℕ) → Place at → step at ≡ Ok (Some e) → pass e ≡ Ok next → Place next)
  where
    -- It holds of the whole walk if it holds of each visit, of the end and of refusals, at each place that is come to.
    pub holds : (n at : ℕ) (a : A) → Place at → P (walk step pass w n at a)
    unfolding walk
    holds zero at a k = at_the_end at a k
    holds (suc n) at a k = by (step at) refl (holds n)
      where
        by_pass : (e : Headed) → step at ≡ Ok (Some e) → (b : A) (p : Result ℕ Refusal) → pass e ≡ p
            → ((next : ℕ) (c : A) → Place next → P (walk step pass w n next c))
            → P (on_passed p w.stop (λ next. walk step pass w n next b))
        by_pass e q b (Ok next) i more = more next b (further at e next k q i)
        by_pass e q b (Err r) i more = refused r

        by_visit : (e : Headed) → step at ≡ Ok (Some e) → (v : Visit A B) → Ended P v
            → ((next : ℕ) (c : A) → Place next → P (walk step pass w n next c))
            → P (on_visit v (λ b. b) (λ more. on_passed (pass e) w.stop (λ next. walk step pass w n next more)))
        by_visit e q (ends b) p more = p
        by_visit e q (over b) p more = by_pass e q b (pass e) refl more

        by : (x : Result (Option Headed) Refusal) → step at ≡ x → ((next : ℕ) (c : A) → Place next → P (walk step pass w n next c))
            → P (turn step pass w at a x (walk step pass w n))
        by (Ok (Some e)) q more = by_visit e q (w.visit a e) (each a at e k q) more
        by (Ok None) q more = at_the_end at a k
        by (Err r) q more = refused r
