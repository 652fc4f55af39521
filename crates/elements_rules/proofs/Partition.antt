-- Each byte of an accepted payload has exactly one holder, and no other byte has any (`Partition`). Assumes nothing.
use Prim.Native.Nat.{ℕ, ◌+◌, ◌≤◌, ◌<◌}
use mathlib.Core.Path.{◌≡◌, refl, sym, ap, ◌∙◌}
use mathlib.Core.List.{List, [], ◌∷◌, ◌++◌}
use mathlib.Core.Logic.{⊎_elim}
use mathlib.Core.Bool.{Bool, true, false, ◌&&◌}
use native.Mathlib.Nat.{zero-add, add-zero}
use native.Mathlib.Omega.{arith}
use lib.ListN.{length}
use lib.Dec.{ltb, leb}
use borrow.Author.Tests.{leb-true, leb-false, ltb-true, ltb-false, le-leb, lt-leb, le-ltb, lt-ltb, eq-eqb, ne_eqb}
use Rattle.kinds.specs.Kinds.{number_of}
use Rattle.elements_rules.specs.Forest.{Element, Forest, none, node, whole, span, count}
use Rattle.elements_rules.specs.Reading.{done}
use Rattle.elements_rules.specs.Rows.{row_of, rows, rows_of}
use Rattle.elements_rules.specs.Stands.{IsMaster, Stands}
use Rattle.elements_rules.specs.Holds.{within, in_header, in_leaf, one, holders}
use Rattle.elements_rules.specs.Promise.{read_of}
use Rattle.elements_rules.specs.Theorems.{Partition}
use Rattle.elements_rules.specs.declared.row.Row.{Row}
use Rattle.elements_rules.proofs.Bodies.{by_kind}
use Rattle.elements_rules.proofs.Standing.{read_stands}
use Rattle.elements_rules.proofs.Readback.{accepted_read}

-- ---- spans

-- Two spans one after the other hold what they hold together.
span_join : (a l m x : ℕ) → one (within a l x) + one (within (a + l) m x) ≡ one (within a (l + m) x)
span_join a l m x =
    go (leb a x) refl (ltb x (a + l)) refl (leb (a + l) x) refl (ltb x (a + l + m)) refl (ltb x (a + (l + m))) refl
  where
    clash : {A : Type 0} → ⊥ → A
    clash z = absurd z

    go : (p : Bool) → leb a x ≡ p → (q : Bool) → ltb x (a + l) ≡ q → (r : Bool) → leb (a + l) x ≡ r
        → (u : Bool) → ltb x (a + l + m) ≡ u → (v : Bool) → ltb x (a + (l + m)) ≡ v
        → one (p && q) + one (r && u) ≡ one (p && v)
    go true e true f true g u i v j = clash (omega (arith, ltb-true x (a + l) f, leb-true (a + l) x g))
    go true e true f false g u i true j = refl
    go true e true f false g u i false j = clash (omega (arith, ltb-true x (a + l) f, ltb-false x (a + (l + m)) j))
    go true e false f true g true i true j = refl
    go true e false f true g true i false j =
        clash (omega (arith, ltb-true x (a + l + m) i, ltb-false x (a + (l + m)) j))
    go true e false f true g false i true j =
        clash (omega (arith, ltb-false x (a + l + m) i, ltb-true x (a + (l + m)) j))
    go true e false f true g false i false j = refl
    go true e false f false g u i v j = clash (omega (arith, ltb-false x (a + l) f, leb-false (a + l) x g))
    go false e q f true g u i v j = clash (omega (arith, leb-false a x e, leb-true (a + l) x g))
    go false e q f false g u i v j = refl

span_none : (a x : ℕ) → one (within a 0 x) ≡ 0
span_none a x = go (leb a x) refl (ltb x (a + 0)) refl
  where
    go : (p : Bool) → leb a x ≡ p → (q : Bool) → ltb x (a + 0) ≡ q → one (p && q) ≡ 0
    go true e true f = absurd (omega (arith, leb-true a x e, ltb-true x (a + 0) f))
    go true e false f = refl
    go false e q f = refl

-- ---- holders

pub holders_append : (rs ss : List Row) (x : ℕ) → holders (rs ++ ss) x ≡ holders rs x + holders ss x
unfolding holders
holders_append [] ss x = sym (zero-add (holders ss x))
holders_append (r ∷ rs) ss x = let h = holders_append rs ss x in omega arith

module _ (parent depth at after x : ℕ) (e : Element) where
  abbrev row_holds : ℕ
  row_holds =
      one (in_header (row_of e parent depth at after) x) + one (in_leaf (row_of e parent depth at after) x)

  leaf_holds : (IsMaster e → ⊥) → row_holds ≡ one (within at (whole e) x)
  leaf_holds m = rw (ne_eqb (number_of e.kind) 1 m) (span_join at e.header.length e.header.size x)

  master_holds : IsMaster e → row_holds ≡ one (within at e.header.length x)
  master_holds m = rw (eq-eqb (number_of e.kind) 1 m) (add-zero (one (within at e.header.length x)))

-- What stands has one holder for each of its bytes.
covers : (live : Bool) (s : List ℕ) (id parent depth at n : ℕ) (f : Forest) → Stands live s id at f → (x : ℕ)
    → holders (rows parent depth at n f) x ≡ one (within at (span f) x)
unfolding Stands rows span holders
covers live s id parent depth at n none i x = sym (span_none at x)
covers live s id parent depth at n (node e kids rest) i x =
    let h = e.header.length in
    let c = n + 1 + count kids in
    let inner = rows (n + 1) (depth + 1) (at + h) (n + 1) kids in
    let k = covers live s e.header.id (n + 1) (depth + 1) (at + h) (n + 1) kids i.1 x in
    let r = covers live s id parent depth (at + whole e) c rest i.2 x in
    let j = span_join at (whole e) (span rest) x in
    let a = holders_append inner (rows parent depth (at + whole e) c rest) x in
    by_kind e.kind
    (λ m.
    let w = master_holds parent depth at c x e m in
    let v = ap (λ (z : ℕ). one (within (at + h) z x)) (i.0.taken m) in
    let u = span_join at h e.header.size x in
    omega arith)
    (λ m.
    let w = leaf_holds parent depth at c x e m in
    let v = ap (λ (f : Forest). one (within (at + h) (span f) x)) (i.0.childless m) in
    let u = span_none (at + h) x in
    omega arith)

pub covered : (live : Bool) (s : List ℕ) (start size parent numbers : ℕ) (f : Forest)
    → read_of live s start size parent numbers ≡ done f
    → (x : ℕ) → holders (rows 0 0 start 0 f) x ≡ one (within start size x)
covered live s start size parent numbers f q x =
    let (w, i) = read_stands live s start size parent numbers f q in
    covers live s parent 0 0 start 0 f i x ∙ ap (λ (y : ℕ). one (within start y x)) w

-- ---- the theorem

inside_one : (start size x : ℕ) → start ≤ x → x < start + size → one (within start size x) ≡ 1
inside_one start size x a b = rw (le-leb start x a, lt-ltb x (start + size) b)

before_none : (start size x : ℕ) → x < start → one (within start size x) ≡ 0
before_none start size x a = rw (lt-leb start x a)

behind_none : (start size x : ℕ) → start + size ≤ x → one (within start size x) ≡ 0
behind_none start size x a = go (leb start x)
  where
    go : (b : Bool) → one (b && ltb x (start + size)) ≡ 0
    go true = rw (le-ltb x (start + size) a)
    go false = refl

pub partition : Partition
partition live s start size parent t n t' p x =
    let a = accepted_read live s start size parent t n t' p in
    let c = covered live s start size parent (length t) a.forest a.outcome x in
    let h : holders (rows_of t' n) x ≡ one (within start size x)
    = ap (λ (rs : List Row). holders rs x) a.rows_are ∙ c in (
      (λ i j. h ∙ inside_one start size x i j),
      (λ o. h ∙ ⊎_elim (λ i. before_none start size x i) (λ i. behind_none start size x i) o),
    )
