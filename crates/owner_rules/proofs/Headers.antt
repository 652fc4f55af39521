-- The seven ways that a header can lead on: one case split for all theorems. Assumes nothing.
use Prim.Native.Nat.{ℕ, ◌+◌, ◌≤◌, ◌<◌}
use mathlib.Core.Path.{◌≡◌, refl}
use mathlib.Core.List.{List}
use mathlib.Core.Bool.{Bool, true, false}
use lib.Dec.{ltb, eqb}
use borrow.Author.Tests.{ltb-true, ltb-false, eqb-true, eqb-false}
use Rattle.refusals.specs.declared.refusal.Cause.{Cause}
use Rattle.header.specs.Header.{Heading, heading}
use Rattle.header.specs.Header.{refused as refused_header}
use Rattle.header.specs.declared.cursor.Header.{Header}
use Rattle.kinds.specs.Kinds.{number_of, kind_under}
use Rattle.elements_rules.specs.Reading.{element_header, depths}
use Rattle.owner_rules.specs.Owner.{whole_of}
use Rattle.owner_rules.specs.Way.{IsMaster}

-- One of two numbers is the smaller, or they are equal.
pub either : {A : Type 0} (a b : ℕ) → (a < b → A) → (b ≤ a → A) → A
either {A} a b less more = go (ltb a b) refl
  where
    go : (t : Bool) → ltb a b ≡ t → A
    go true e = less (ltb-true a b e)
    go false e = more (ltb-false a b e)

-- A master, or none.
pub master_or_not : {A : Type 0} (h : Header) (parent : ℕ) → (IsMaster h parent → A) → ((IsMaster h parent → ⊥) → A) → A
master_or_not {A} h parent is other = go (eqb (number_of (kind_under h.id parent)) 1) refl
  where
    go : (t : Bool) → eqb (number_of (kind_under h.id parent)) 1 ≡ t → A
    go true e = is (eqb-true _ 1 e)
    go false e = other (eqb-false _ 1 e)

module _ (live : Bool) (s : List ℕ) (x depth parent at left : ℕ) where
  pub at_header : {A : Type 0}
      → ((c : Cause) → element_header live s at ≡ refused_header c → A)
      → ((h : Header) → element_header live s at ≡ heading h → depths ≤ depth → A)
      → ((h : Header) → element_header live s at ≡ heading h → depth < depths → left < whole_of h → A)
      → ((h : Header) → element_header live s at ≡ heading h → depth < depths → whole_of h ≤ left
      → x < at + h.length → A)
      → ((h : Header) → element_header live s at ≡ heading h → depth < depths → whole_of h ≤ left → at + h.length ≤ x
      → x < at + whole_of h → (IsMaster h parent → ⊥) → A)
      → ((h : Header) → element_header live s at ≡ heading h → depth < depths → whole_of h ≤ left → at + h.length ≤ x
      → x < at + whole_of h → IsMaster h parent → A)
      → ((h : Header) → element_header live s at ≡ heading h → depth < depths → whole_of h ≤ left → at + h.length ≤ x
      → at + whole_of h ≤ x → A)
      → A
  at_header {A} broken deep large head leaf master past = go (element_header live s at) refl
    where
      go : (y : Heading) → element_header live s at ≡ y → A
      go (refused_header c) e = broken c e
      go (heading h) e =
          either depth depths
          (λ d.
          either left (whole_of h) (large h e d)
          (λ l.
          either x (at + h.length) (head h e d l)
          (λ a.
          either x (at + whole_of h)
          (λ b. master_or_not h parent (master h e d l a b) (leaf h e d l a b))
          (past h e d l a))))
          (deep h e)
