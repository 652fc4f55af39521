-- No row of an accepted read is deeper than 15, and the rows are not more than the table has (`DepthsAllowed`,
-- `RowsFit`). Assumes nothing.
use Prim.Native.Nat.{ℕ, zero, suc, ◌+◌, ◌-◌, ◌/◌, ◌≤◌, ◌<◌, max}
use mathlib.Core.Path.{◌≡◌, sym, subst}
use mathlib.Core.List.{List}
use mathlib.Core.Bool.{Bool}
use native.Mathlib.Omega.{arith}
use lib.ListN.{length}
use Rattle.kinds.specs.Kinds.{kind_under}
use Rattle.bodies_rules.specs.Bodies.{body_of}
use Rattle.elements_rules.specs.Forest.{Forest, none, node, whole, span, count, deep, join}
use Rattle.elements_rules.specs.Reading.{Outcome, done, siblings, element, depths, master_body}
use Rattle.elements_rules.specs.Rows.{rows, width}
use Rattle.elements_rules.specs.Promise.{keeping, filled, read_of}
use Rattle.elements_rules.specs.Theorems.{Each, DepthsAllowed, RowsFit}
use Rattle.elements_rules.specs.declared.row.Row.{Row}
use Rattle.elements_rules.specs.declared.row.Mode.{Mode}
use Rattle.elements_rules.proofs.Outcomes.{of_refuse}
use Rattle.elements_rules.proofs.Parts.{of_siblings, of_none, no_depth, of_element}
use Rattle.elements_rules.proofs.Bodies.{of_held}
use Rattle.elements_rules.proofs.Readback.{accepted_read}
use Rattle.elements_rules.proofs.Sound.{each_append}

deep_join : (f g : Forest) → deep (join f g) ≡ max (deep f) (deep g)
unfolding deep join
deep_join none g = omega arith
deep_join (node e kids rest) g = let i = deep_join rest g in omega arith

module _ (s : List ℕ) (mode : Mode) (cap : ℕ) where
  siblings_low : (l : ℕ) (read : ℕ → ℕ → Outcome) → ((at n : ℕ) (f : Forest) → read at n ≡ done f → deep f ≤ l)
      → (most at left n : ℕ) (f : Forest) → siblings read most at left n ≡ done f → deep f ≤ l
  unfolding deep
  siblings_low l read good zero at left n f q = rw (of_none read at left n f q) (omega arith)
  siblings_low l read good (suc most) at left n f q =
      of_siblings read most at left n f q
      (λ z e. rw e (omega arith))
      (λ g r e o x y.
      let h = good at n g e in
      let i = siblings_low l read good most (at + span g) (left - span g) (n + count g) r x in
      rw (y, deep_join g r) (omega arith))

  element_low : (l parent at n : ℕ) (f : Forest) → element s mode cap l parent at n ≡ done f → deep f ≤ l
  unfolding deep
  element_low zero parent at n f q = no_depth s mode cap parent at n f q
  element_low (suc l) parent at n f q =
      let o = of_element s mode cap l parent at n f q in
      let h = o.header in
      let i : deep o.kids ≤ l =
      of_held at (body_of s (at + h.length) h.size (kind_under h.id parent)) _ o.kids o.inner
      (λ b u.
      siblings_low l (element s mode cap l h.id) (element_low l h.id) h.size (at + h.length) h.size (n + 1)
      o.kids u)
      (λ b u. rw u (omega arith)) in
      rw o.is (omega arith)

  -- A master's body that was read has no depth but those that were left.
  pub body_low : (depth parent at size n : ℕ) (f : Forest) → master_body s mode cap depth parent at size n ≡ done f
      → deep f ≤ depths - depth
  unfolding master_body
  body_low depth parent at size n f q =
      siblings_low (depths - depth) (element s mode cap (depths - depth) parent)
      (element_low (depths - depth) parent) size at size n f q

-- The rows of elements within so many depths.
rows_low : (parent depth at n : ℕ) (f : Forest) → depth + deep f ≤ depths
    → Each (λ r. r.depth < depths) (rows parent depth at n f)
unfolding deep Each rows
rows_low parent depth at n none d = tt
rows_low parent depth at n (node e kids rest) d = (
  omega arith,
  each_append (λ r. r.depth < depths) (rows (n + 1) (depth + 1) (at + e.header.length) (n + 1) kids) _
      (rows_low (n + 1) (depth + 1) (at + e.header.length) (n + 1) kids (omega arith))
      (rows_low parent depth (at + whole e) (n + 1 + count kids) rest (omega arith)),
)

pub read_low : (live : Bool) (s : List ℕ) (start size parent numbers : ℕ) (f : Forest)
    → read_of live s start size parent numbers ≡ done f → deep f ≤ depths
unfolding read_of filled
read_low live s start size parent numbers f q =
    body_low s (keeping live) (numbers / width) 0 parent start size 0 f (of_refuse _ _ _ q).1

pub depths_allowed : DepthsAllowed
depths_allowed live s start size parent t n t' p =
    let a = accepted_read live s start size parent t n t' p in
    let l = read_low live s start size parent (length t) a.forest a.outcome in
    subst (λ (rs : List Row). Each (λ r. r.depth < depths) rs) (sym a.rows_are)
    (rows_low 0 0 start 0 a.forest (omega arith))

pub rows_fit_table : RowsFit
rows_fit_table live s start size parent t n t' p =
    let a = accepted_read live s start size parent t n t' p in
    (a.fits, a.as_long)
