-- The combinators of the definition, one way and the other: what they give under a test, and what an accepted outcome
-- says of their parts. Assumes nothing.
use Prim.Native.Nat.{ℕ}
use mathlib.Core.Path.{◌≡◌, refl}
use mathlib.Core.Bool.{Bool, true, false, cond}
use native.Mathlib.Omega.{arith}
use Rattle.header.specs.Header.{Heading, heading}
use Rattle.header.specs.Header.{refused as refused_header}
use Rattle.header.specs.declared.cursor.Header.{Header}
use Rattle.refusals.specs.declared.refusal.Refusal.{Refusal}
use Rattle.elements_rules.specs.Forest.{Element, Forest, none, node, join}
use Rattle.elements_rules.specs.Reading.{Outcome, done, refused, and_then, prepend, above, refuse_if, headed}

-- A refusal is no forest.
pub never : {A : Type 0} {e : Refusal} {f : Forest} → refused e ≡ done f → A
never q = let z : ◌≡◌ {A = ℕ} 0 1 = cc in let z' : ⊥ = omega arith in absurd z'

pub refuses : (b : Bool) (e : Refusal) (o : Outcome) → b ≡ true → refuse_if b e o ≡ refused e
unfolding refuse_if
refuses b e o k = rw k

pub passes : (b : Bool) (e : Refusal) (o : Outcome) → b ≡ false → refuse_if b e o ≡ o
unfolding refuse_if
passes b e o k = rw k

pub of_refuse : (b : Bool) (e : Refusal) (o : Outcome) {f : Forest} → refuse_if b e o ≡ done f
    → (b ≡ false) × (o ≡ done f)
unfolding refuse_if
of_refuse true e o w = never w
of_refuse false e o w = (refl, w)

pub of_prepend : (f : Forest) (o : Outcome) (t : Forest) → prepend f o ≡ done t
    → (g : Forest) × (o ≡ done g) × (t ≡ join f g)
of_prepend f (done g) t q = (g, refl, cc)
of_prepend f (refused e) t q = never q

pub of_above : (e : Element) (o : Outcome) (t : Forest) → above e o ≡ done t
    → (kids : Forest) × (o ≡ done kids) × (t ≡ node e kids none)
of_above e (done kids) t q = (kids, refl, cc)
of_above e (refused r) t q = never q

pub of_then : {o : Outcome} {k : Forest → Outcome} {f : Forest} → and_then o k ≡ done f
    → (g : Forest) × (o ≡ done g) × (k g ≡ done f)
of_then {o} {k} {f} q = go o q
  where
    go : (x : Outcome) → and_then x k ≡ done f → (g : Forest) × (x ≡ done g) × (k g ≡ done f)
    go (done g) w = (g, refl, w)
    go (refused e) w = never w

pub of_headed : (at : ℕ) {x : Heading} {k : Header → Outcome} {f : Forest} → headed at x k ≡ done f
    → (h : Header) × (x ≡ heading h) × (k h ≡ done f)
of_headed at {x} {k} {f} q = go x q
  where
    go : (y : Heading) → headed at y k ≡ done f → (h : Header) × (y ≡ heading h) × (k h ≡ done f)
    go (heading h) w = (h, refl, w)
    go (refused_header c) w = never w

-- Either way of a choice.
pub of_cond : {C : Type 0} (b : Bool) {a a' o : Outcome} → cond b a a' ≡ o
    → (b ≡ true → a ≡ o → C) → (b ≡ false → a' ≡ o → C) → C
of_cond true w here there = here refl w
of_cond false w here there = there refl w
