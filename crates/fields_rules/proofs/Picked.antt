-- A child that was picked is one of the rows, fits what was sought, and can be read. Assumes nothing.
use Rattle.booleans.proofs.Pairs.{some_halves}
use Prim.Native.Nat.{ℕ, zero, suc, ◌+◌, ◌-◌, ◌^◌, ◌≤◌, ◌<◌}
use mathlib.Core.Path.{◌≡◌, refl, sym, ap, ◌∙◌, subst}
use mathlib.Core.List.{List, [], ◌∷◌}
use mathlib.Core.Bool.{Bool, true, false, cond, ◌&&◌}
use native.Mathlib.Omega.{arith}
use lib.ListN.{length}
use lib.Dec.{eqb}
use borrow.Author.Tests.{eqb-true}
use Rattle.kinds.specs.Kinds.{number_of}
use Rattle.kinds.specs.declared.kind.Kind.{Kind}
use Rattle.elements_rules.specs.Rows.{nth}
use Rattle.elements_rules.specs.Theorems.{Sound}
use Rattle.elements_rules.specs.declared.row.Row.{Row}
use Rattle.elements_rules.proofs.Numbered.{each_at}
use Rattle.fields_rules.specs.Children.{fits, children_from, children, last_from, last_of, nth_of, rows_in}
use Rattle.fields_rules.specs.Contract.{Readable, Holds}
use Rattle.fields_rules.specs.declared.child.Below.{Below}
use Rattle.std.proofs.Common.{Option, Some, None}

-- ---- what holds of each child holds of the last and of the k-th

-- A child that is there has a property.
abbrev pub If : (ℕ → Row → Type 0) → Option (ℕ × Row) → Type 0
If P c = (n : ℕ) (r : Row) → c ≡ Some (n, r) → P n r

-- And so does each of a list of children.
abbrev pub All : (ℕ → Row → Type 0) → List (Option (ℕ × Row)) → Type 0
All P [] = Unit
All P (c ∷ cs) = If P c × All P cs

module _ (P : ℕ → Row → Type 0) where
  none_if : If P None
  none_if n r e = let z : ◌≡◌ {A = ℕ} 0 1 = cc in absurd (omega arith)

  last_if : (cs : List (Option (ℕ × Row))) (c : Option (ℕ × Row)) → If P c → All P cs → If P (last_from c cs)
  unfolding last_from
  last_if [] c a b = a
  last_if (d ∷ ds) c a b = last_if ds d b.0 b.1

  nth_if : (k : ℕ) (cs : List (Option (ℕ × Row))) → All P cs → If P (nth_of k cs)
  unfolding nth_of
  nth_if k [] b = none_if
  nth_if zero (c ∷ cs) b = b.0
  nth_if (suc k) (c ∷ cs) b = nth_if k cs b.1

pub all_if : {P : ℕ → Row → Type 0} (Q : ℕ → Row → Type 0) → ((n : ℕ) (r : Row) → P n r → Q n r)
    → (cs : List (Option (ℕ × Row))) → All P cs → All Q cs
all_if Q f [] a = tt
all_if Q f (c ∷ cs) a = (λ n r e. f n r (a.0 n r e), all_if Q f cs a.1)

-- ---- a child among rows that are counted from row `from` on

pub record IsChild (rs : List Row) (from parent id : ℕ) (kind : Kind) (n : ℕ) (r : Row) : Type 0 where
  pub since : from ≤ n
  pub before : n < from + length rs
  pub row : nth rs (n - from) ≡ r
  pub fit : fits parent id kind r ≡ true

module _ (parent id : ℕ) (kind : Kind) where
  here : (rs : List Row) (from : ℕ) (x : Row) → fits parent id kind x ≡ true
      → If (IsChild (x ∷ rs) from parent id kind) (Some (from, x))
  unfolding nth
  here rs from x f n r e =
      let (a, b) = some_halves e in
      let z : n - from ≡ 0 = omega arith in
      record {
        since = omega arith;
        before = omega arith;
        row = ap (nth (x ∷ rs)) z ∙ b;
        fit = ap (fits parent id kind) (sym b) ∙ f;
      }

  later : (rs : List Row) (from : ℕ) (x : Row) (n : ℕ) (r : Row) → IsChild rs (from + 1) parent id kind n r
      → IsChild (x ∷ rs) from parent id kind n r
  unfolding nth
  later rs from x n r i =
      let z : n - from ≡ suc (n - (from + 1)) = omega (arith, i.since) in
      record {
        since = omega (arith, i.since);
        before = omega (arith, i.before);
        row = ap (nth (x ∷ rs)) z ∙ i.row;
        fit = i.fit;
      }

  all_later : (rs : List Row) (from : ℕ) (x : Row) (cs : List (Option (ℕ × Row))) → All (IsChild rs (from + 1) parent id kind) cs
      → All (IsChild (x ∷ rs) from parent id kind) cs
  all_later rs from x [] a = tt
  all_later rs from x (c ∷ cs) a = (λ n r e. later rs from x n r (a.0 n r e), all_later rs from x cs a.1)

  all_children : (rs : List Row) (from : ℕ)
      → All (IsChild rs from parent id kind) (children_from from parent id kind rs)
  unfolding children_from
  all_children [] from = tt
  all_children (x ∷ rs) from =
      go (fits parent id kind x) refl
      (all_later rs from x (children_from (from + 1) parent id kind rs) (all_children rs (from + 1)))
    where
      go : (b : Bool) → fits parent id kind x ≡ b
          → All (IsChild (x ∷ rs) from parent id kind) (children_from (from + 1) parent id kind rs)
          → All (IsChild (x ∷ rs) from parent id kind)
          (cond b (Some (from, x) ∷ children_from (from + 1) parent id kind rs)
          (children_from (from + 1) parent id kind rs))
      go true f a = (here rs from x f, a)
      go false f a = a

  -- Each is one of the rows.
  pub all_before : (rs : List Row) → All (λ n r. n < parent + length rs) (children parent id kind rs)
  all_before rs =
      all_if (λ n r. n < parent + length rs) (λ n r i. i.before) (children parent id kind rs) (all_children rs parent)

  pub last_is : (rs : List Row) (n : ℕ) (r : Row) → Some (n, r) ≡ last_of (children parent id kind rs)
      → IsChild rs parent parent id kind n r
  last_is rs n r e =
      last_if (IsChild rs parent parent id kind) (children parent id kind rs) None
      (none_if (IsChild rs parent parent id kind)) (all_children rs parent) n r (sym e)

  pub nth_is : (rs : List Row) (k n : ℕ) (r : Row) → Some (n, r) ≡ nth_of k (children parent id kind rs)
      → IsChild rs parent parent id kind n r
  nth_is rs k n r e =
      nth_if (IsChild rs parent parent id kind) k (children parent id kind rs) (all_children rs parent) n r (sym e)

  -- ---- it can be read

  pub fits_kind : (r : Row) → fits parent id kind r ≡ true → r.kind ≡ number_of kind
  unfolding fits
  fits_kind r = go (eqb r.parent parent) (eqb r.id id) (eqb r.kind (number_of kind)) refl
    where
      go : (a b c : Bool) → eqb r.kind (number_of kind) ≡ c → (a && (b && c)) ≡ true → r.kind ≡ number_of kind
      go true true true e q = eqb-true r.kind (number_of kind) e
      go true true false e q = let z : ◌≡◌ {A = ℕ} 0 1 = cc in absurd (omega arith)
      go true false c e q = let z : ◌≡◌ {A = ℕ} 0 1 = cc in absurd (omega arith)
      go false b c e q = let z : ◌≡◌ {A = ℕ} 0 1 = cc in absurd (omega arith)

module _ {s t : List ℕ} {b : Below} (h : Readable s t b) {id : ℕ} {kind : Kind} {n : ℕ} {r : Row} where
  child_holds : IsChild (rows_in t b) b.parent b.parent id kind n r → Holds s kind r
  child_holds i =
      let m : n - b.parent < length (rows_in t b) = omega (arith, i.since, i.before) in
      record {
        short = h.short;
        sound = subst (Sound s) i.row (each_at (Sound s) (rows_in t b) (n - b.parent) m h.sound);
        is = fits_kind b.parent id kind r i.fit;
      }

-- The last child that was found, and the k-th, can be read.
module _ {s t : List ℕ} {b : Below} (h : Readable s t b) (id : ℕ) (kind : Kind) {c : (Option (ℕ × Row))} {n : ℕ} {r : Row} where
  pub last_holds : c ≡ last_of (children b.parent id kind (rows_in t b)) → c ≡ Some (n, r) → Holds s kind r
  last_holds e a = child_holds h (last_is b.parent id kind (rows_in t b) n r (sym a ∙ e))

  pub nth_holds : (k : ℕ) → c ≡ nth_of k (children b.parent id kind (rows_in t b)) → c ≡ Some (n, r) → Holds s kind r
  nth_holds k e a = child_holds h (nth_is b.parent id kind (rows_in t b) k n r (sym a ∙ e))

  -- The payload's place can be told, since it lies in the recording.
  pub last_fits : c ≡ last_of (children b.parent id kind (rows_in t b)) → c ≡ Some (n, r)
      → r.address + r.header < 2 ^ 64
  last_fits e a = let k = last_holds e a in omega (arith, k.short, k.sound.inside)

  pub nth_fits : (k : ℕ) → c ≡ nth_of k (children b.parent id kind (rows_in t b)) → c ≡ Some (n, r)
      → r.address + r.header < 2 ^ 64
  nth_fits k e a = let h = nth_holds k e a in omega (arith, h.short, h.sound.inside)
