-- A master's body is one element after another: the bound of its definition hides no answer (`BodyUnfolds`). Assumes
-- nothing.
use Prim.Native.Nat.{ℕ, zero, suc, ◌+◌, ◌-◌, ◌≤◌}
use mathlib.Core.Path.{◌≡◌, refl, ap}
use mathlib.Core.Bool.{Bool, true, false, cond}
use native.Mathlib.Omega.{arith}
use lib.Dec.{ltb, eqb}
use borrow.Author.Tests.{ltb-false}
use Rattle.refusals.specs.Refusals.{overrun}
use Rattle.elements_rules.specs.Forest.{Forest, none, span, count}
use Rattle.elements_rules.specs.Reading.{Outcome, done, refused, and_then, prepend, refuse_if, siblings}
use Rattle.elements_rules.specs.Reading.{element, depths, master_body}
use Rattle.elements_rules.specs.Theorems.{BodyUnfolds}
use Rattle.elements_rules.proofs.Standing.{element_takes}

module _ (read : ℕ → ℕ → Outcome) (takes : (at n : ℕ) (f : Forest) → read at n ≡ done f → 1 ≤ span f) where
  -- One element, and what follows it.
  abbrev turn : (at left : ℕ) → Outcome → (Forest → Outcome) → Outcome
  turn at left o rest =
      cond (eqb left 0) (done none) (and_then o (λ f. refuse_if (ltb left (span f)) (overrun at) (prepend f (rest f))))

  alike : (at left n : ℕ) (g h : Forest → Outcome)
      → ((f : Forest) → 1 ≤ span f → span f ≤ left → g f ≡ h f)
      → turn at left (read at n) g ≡ turn at left (read at n) h
  unfolding refuse_if
  alike at left n g h same = by (read at n) refl
    where
      by_span : (f : Forest) → 1 ≤ span f → (b : Bool) → ltb left (span f) ≡ b
          → refuse_if b (overrun at) (prepend f (g f)) ≡ refuse_if b (overrun at) (prepend f (h f))
      by_span f l true q = refl
      by_span f l false q = ap (prepend f) (same f l (ltb-false left (span f) q))

      by_left : (b : Bool) (x y : Outcome) → x ≡ y → cond b (done none) x ≡ cond b (done none) y
      by_left b x y q = ap (cond b (done none)) q

      by : (o : Outcome) → read at n ≡ o → turn at left o g ≡ turn at left o h
      by (refused e) q = refl
      by (done f) q = by_left (eqb left 0) _ _ (by_span f (takes at n f q) (ltb left (span f)) refl)

  -- A bound that is large enough changes nothing.
  enough : (m k at left n : ℕ) → left ≤ m → left ≤ k → siblings read m at left n ≡ siblings read k at left n
  unfolding siblings
  enough zero zero at left n a b = refl
  enough zero (suc k) at left n a b = let z : left ≡ 0 = omega arith in rw z refl
  enough (suc m) zero at left n a b = let z : left ≡ 0 = omega arith in rw z refl
  enough (suc m) (suc k) at left n a b =
      alike at left n
      (λ f. siblings read m (at + span f) (left - span f) (n + count f))
      (λ f. siblings read k (at + span f) (left - span f) (n + count f))
      (λ f l o. enough m k (at + span f) (left - span f) (n + count f) (omega arith) (omega arith))

  unfolds : (m at left n : ℕ) → left ≤ m
      → siblings read m at left n
      ≡ turn at left (read at n) (λ f. siblings read (left - span f) (at + span f) (left - span f) (n + count f))
  unfolding siblings
  unfolds zero at left n a = let z : left ≡ 0 = omega arith in rw z refl
  unfolds (suc m) at left n a =
      alike at left n
      (λ f. siblings read m (at + span f) (left - span f) (n + count f))
      (λ f. siblings read (left - span f) (at + span f) (left - span f) (n + count f))
      (λ f l o. enough m (left - span f) (at + span f) (left - span f) (n + count f) (omega arith) (omega arith))

pub body_unfolds : BodyUnfolds
unfolding master_body
body_unfolds s mode cap depth parent at size n =
    unfolds (element s mode cap (depths - depth) parent) (element_takes s mode cap (depths - depth) parent) size at size
    n (omega arith)
