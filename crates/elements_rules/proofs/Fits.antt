-- The rows of an accepted read are not more than the table has. Assumes nothing.
use Prim.Native.Nat.{ℕ, zero, suc, ◌+◌, ◌-◌, ◌/◌, ◌≤◌}
use mathlib.Core.Path.{◌≡◌, refl}
use mathlib.Core.List.{List}
use mathlib.Core.Bool.{Bool, true, false}
use native.Mathlib.Omega.{arith}
use borrow.Author.Tests.{leb-false}
use Rattle.kinds.specs.Kinds.{kind_under}
use Rattle.bodies_rules.specs.Bodies.{body_of}
use Rattle.elements_rules.specs.Forest.{Forest, span, count}
use Rattle.elements_rules.specs.Reading.{Outcome, done, full, siblings, element, depths, master_body}
use Rattle.elements_rules.specs.Rows.{width}
use Rattle.elements_rules.specs.Promise.{keeping, filled, read_of}
use Rattle.elements_rules.specs.declared.row.Mode.{Mode}
use Rattle.elements_rules.proofs.Outcomes.{of_refuse}
use Rattle.elements_rules.proofs.Parts.{of_siblings, of_none, no_depth, of_element}
use Rattle.elements_rules.proofs.Bodies.{of_held}
use Rattle.elements_rules.proofs.Forests.{count_join}

module _ (s : List ℕ) (mode : Mode) (keep : mode.keep ≡ true) (cap : ℕ) where
  -- A reader of one element that keeps within the rows.
  unfoldable Keeps : (ℕ → ℕ → Outcome) → Type 0
  Keeps read = (at n : ℕ) (f : Forest) → n ≤ cap → read at n ≡ done f → n + count f ≤ cap

  siblings_fit : (read : ℕ → ℕ → Outcome) → Keeps read → (most at left n : ℕ) (f : Forest) → n ≤ cap
      → siblings read most at left n ≡ done f → n + count f ≤ cap
  unfolding Keeps count
  siblings_fit read good zero at left n f l q = rw (of_none read at left n f q) (omega arith)
  siblings_fit read good (suc most) at left n f l q =
      of_siblings read most at left n f q
      (λ z e. rw e (omega arith))
      (λ g r e o x y.
      let k = good at n g l e in
      let i = siblings_fit read good most (at + span g) (left - span g) (n + count g) r k x in
      let j = count_join g r in
      rw y (omega arith))

  free : (n : ℕ) → full mode cap n ≡ false → n + 1 ≤ cap
  unfolding full
  free n q = let l = leb-false cap n (rw keep at q) in omega arith

  element_fit : (levels parent : ℕ) → Keeps (element s mode cap levels parent)
  unfolding Keeps count
  element_fit zero parent at n f l q = no_depth s mode cap parent at n f q
  element_fit (suc levels) parent at n f l q =
      let o = of_element s mode cap levels parent at n f q in
      let h = o.header in
      let more = free n o.free in
      let i : n + 1 + count o.kids ≤ cap =
      of_held at (body_of s (at + h.length) h.size (kind_under h.id parent)) _ o.kids o.inner
      (λ b u.
      siblings_fit (element s mode cap levels h.id) (element_fit levels h.id) h.size (at + h.length) h.size
      (n + 1) o.kids more u)
      (λ b u. rw u (omega arith)) in
      rw o.is (omega arith)

  -- A master's body that was read found rows enough.
  pub body_fits : (depth parent at size n : ℕ) (f : Forest) → n ≤ cap
      → master_body s mode cap depth parent at size n ≡ done f → n + count f ≤ cap
  unfolding master_body
  body_fits depth parent at size n f =
      siblings_fit (element s mode cap (depths - depth) parent) (element_fit (depths - depth) parent) size at size n f

pub rows_fit : (live : Bool) (s : List ℕ) (start size parent numbers : ℕ) (f : Forest)
    → read_of live s start size parent numbers ≡ done f
    → count f ≤ numbers / width
unfolding read_of filled
rows_fit live s start size parent numbers f q =
    let i = body_fits s (keeping live) refl (numbers / width) 0 parent start size 0 f (omega arith)
    (of_refuse _ _ _ q).1 in
    omega arith
