-- What two equal answers that hold pairs say of the halves. Assumes nothing.
use mathlib.Core.Path.{◌≡◌, ap}
use Rattle.std.proofs.Common.{Result, Option, Ok, Some}

-- The halves of two equal pairs are equal.
pub halves : {A B : Type 0} {a c : A} {b d : B} → ◌≡◌ {A = A × B} (a, b) (c, d) → (a ≡ c) × (b ≡ d)
halves {A} {B} q = (ap (λ (p : A × B). p.0) q, ap (λ (p : A × B). p.1) q)

-- Two equal accepted pairs.
pub ok_halves : {A B E : Type 0} {a c : A} {b d : B} → ◌≡◌ {A = Result (A × B) E} (Ok (a, b)) (Ok (c, d)) → (a ≡ c) × (b ≡ d)
ok_halves q = halves (cc)

-- Two equal pairs that are there.
pub some_halves : {A B : Type 0} {a c : A} {b d : B} → ◌≡◌ {A = Option (A × B)} (Some (a, b)) (Some (c, d)) → (a ≡ c) × (b ≡ d)
some_halves q = halves (cc)
