-- What was read stands in the recording. Assumes nothing.
use Prim.Native.Nat.{ℕ, zero, suc, ◌+◌, ◌-◌, ◌/◌, ◌≤◌}
use mathlib.Core.Path.{◌≡◌, refl, subst}
use mathlib.Core.List.{List}
use mathlib.Core.Bool.{Bool}
use native.Mathlib.Omega.{arith}
use lib.ListN.{length}
use Rattle.header.proofs.Inside.{header_inside}
use Rattle.kinds.specs.Kinds.{number_of, kind_under}
use Rattle.kinds.specs.declared.kind.Kind.{Kind}
use Rattle.bodies_rules.specs.Bodies.{master, body_of}
use Rattle.elements_rules.specs.Forest.{Element, Forest, none, node, whole, span, join}
use Rattle.elements_rules.specs.Reading.{Outcome, done, siblings, element, element_of, depths, master_body}
use Rattle.elements_rules.specs.Rows.{width}
use Rattle.elements_rules.specs.Promise.{keeping, filled, read_of}
use Rattle.elements_rules.specs.Stands.{IsValue, StandsAt, Stands}
use Rattle.elements_rules.specs.declared.row.Mode.{Mode}
use Rattle.elements_rules.proofs.Limits.{start_inside}
use Rattle.elements_rules.proofs.Outcomes.{of_refuse}
use Rattle.elements_rules.proofs.Parts.{of_siblings, of_none, taken_there, no_depth, of_element}
use Rattle.elements_rules.proofs.Bodies.{by_kind, Leaf, a_refusal, a_value, leaf_body, master_body_law, of_held}
use Rattle.elements_rules.proofs.Forests.{span_join}

module _ (s : List ℕ) where
  -- A leaf that was accepted: its body is a value, and ends in the recording.
  value_inside : (at n : ℕ) (k : Kind) → (number_of k ≡ 1 → ⊥) → IsValue (body_of s at n k) → at + n ≤ length s
  value_inside at n k m v = go (leaf_body s at n k m)
    where
      go : Leaf s at n (body_of s at n k) → at + n ≤ length s
      go (a_refusal c e) = absurd (subst IsValue e v)
      go (a_value i w) = i

  not_master : (at n : ℕ) (k : Kind) → IsValue (body_of s at n k) → number_of k ≡ 1 → ⊥
  not_master at n k v m = subst IsValue (master_body_law s at n k m) v

  pub is_master : (at n : ℕ) (k : Kind) → body_of s at n k ≡ master → number_of k ≡ 1
  is_master at n k e = by_kind k (λ m. m) (λ m. by (leaf_body s at n k m))
    where
      by : Leaf s at n (body_of s at n k) → number_of k ≡ 1
      by (a_refusal c r) = let z : ◌≡◌ {A = ℕ} 0 1 = cc in absurd (omega arith)
      by (a_value i v) = absurd (subst IsValue e v)

module _ (live : Bool) (s : List ℕ) where
  -- What stands ends in the recording.
  pub stands_inside : (parent at : ℕ) (f : Forest) → Stands live s parent at f → at + span f ≤ length s
  unfolding Stands span
  stands_inside parent at none i = omega arith
  stands_inside parent at (node e kids rest) i =
      let r = stands_inside parent (at + whole e) rest i.2 in
      omega arith

  pub stands_join : (parent at : ℕ) (f g : Forest) → Stands live s parent at f → Stands live s parent (at + span f) g
      → Stands live s parent at (join f g)
  unfolding Stands span join
  stands_join parent at none g i j = let e : at + 0 ≡ at = omega arith in rw e at j
  stands_join parent at (node e kids rest) g i j =
      let a : at + (whole e + span rest) ≡ at + whole e + span rest = omega arith in
      (i.0, i.1, stands_join parent (at + whole e) rest g i.2 (rw a at j))

  -- A reader of one element whose elements take a byte at least, and stand.
  unfoldable Reads : ℕ → (ℕ → ℕ → Outcome) → Type 0
  Reads parent read = (at n : ℕ) (f : Forest) → read at n ≡ done f → (1 ≤ span f) × Stands live s parent at f

  siblings_stand :
      (parent : ℕ) (read : ℕ → ℕ → Outcome) → Reads parent read → (most at left n : ℕ) (f : Forest) → left ≤ most
      → at ≤ length s → siblings read most at left n ≡ done f → (span f ≡ left) × Stands live s parent at f
  unfolding Reads Stands span
  siblings_stand parent read good zero at left n f l i q = rw (of_none read at left n f q) (omega arith, i)
  siblings_stand parent read good (suc most) at left n f l i q =
      of_siblings read most at left n f q
      (λ z e. rw e (omega arith, i))
      (λ g r e o x y.
      let k = good at n g e in
      let inside = stands_inside parent at g k.1 in
      let c = siblings_stand parent read good most (at + span g) (left - span g) _ r (omega arith) inside x in
      rw y (omega (arith, span_join g r), stands_join parent at g r k.1 c.1))

  -- One element over its children.
  stands_node : (parent at : ℕ) (e : Element) (kids : Forest) → StandsAt live s parent at e kids
      → Stands live s e.header.id (at + e.header.length) kids → at + whole e ≤ length s
      → Stands live s parent at (node e kids none)
  unfolding Stands
  stands_node parent at e kids h k i = (h, k, i)

-- With a mode, and a table of so many rows.
module _ (s : List ℕ) (mode : Mode) (cap : ℕ) where
  element_stands : (levels parent : ℕ) → Reads mode.live s parent (element s mode cap levels parent)
  unfolding Reads Stands span
  element_stands zero parent at n f q = no_depth s mode cap parent at n f q
  element_stands (suc levels) parent at n f q =
      let o = of_element s mode cap levels parent at n f q in
      let h = o.header in
      let e = o.head in
      let kids = o.kids in
      let a = o.is in
      let i = header_inside s at h (taken_there mode.live s at h e) in
      let k = kind_under h.id parent in
      of_held at (body_of s (at + h.length) h.size k) _ kids o.inner
      (λ b u.
      let m = is_master s (at + h.length) h.size k b in
      let g = siblings_stand mode.live s h.id (element s mode cap levels h.id) (element_stands levels h.id)
      h.size (at + h.length) h.size (n + 1) kids (omega arith) i.1 u in
      let j = stands_inside mode.live s h.id (at + h.length) kids g.1 in
      let t : StandsAt mode.live s parent at (element_of parent h) kids = record {
        head = e;
        kind = refl;
        taken = λ y. g.0;
        value = λ y. absurd (y m);
        childless = λ y. absurd (y m);
      } in
      rw a (omega arith, stands_node mode.live s parent at (element_of parent h) kids t g.1 (omega arith)))
      (λ b u.
      let m = not_master s (at + h.length) h.size k b in
      let j = value_inside s (at + h.length) h.size k m b in
      let t : StandsAt mode.live s parent at (element_of parent h) none = record {
        head = e;
        kind = refl;
        taken = λ y. absurd (m y);
        value = λ y. b;
        childless = λ y. refl;
      } in
      rw (a, u) (omega arith, stands_node mode.live s parent at (element_of parent h) none t i.1 (omega arith)))

  -- An element that was read takes a byte at least.
  pub element_takes : (levels parent at n : ℕ) (f : Forest)
      → element s mode cap levels parent at n ≡ done f → 1 ≤ span f
  unfolding Reads
  element_takes levels parent at n f q = (element_stands levels parent at n f q).0

  -- A master's body that was read takes up its size, and stands.
  pub body_stands : (depth parent at size n : ℕ) (f : Forest) → at ≤ length s
      → master_body s mode cap depth parent at size n ≡ done f → (span f ≡ size) × Stands mode.live s parent at f
  unfolding master_body
  body_stands depth parent at size n f i q =
      siblings_stand mode.live s parent (element s mode cap (depths - depth) parent)
      (element_stands (depths - depth) parent) size at size n f (omega arith) i q

-- The public read, where it is accepted.
pub read_stands : (live : Bool) (s : List ℕ) (start size parent numbers : ℕ) (f : Forest)
    → read_of live s start size parent numbers ≡ done f → (span f ≡ size) × Stands live s parent start f
unfolding read_of filled
read_stands live s start size parent numbers f q =
    let (a, o) = of_refuse _ _ _ q in
    body_stands s (keeping live) (numbers / width) 0 parent start size 0 f (start_inside s start numbers a) o
