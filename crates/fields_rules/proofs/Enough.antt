-- All direct children of a master stand among the rows below it (`SubtreeIsEnough`). Assumes nothing.
use Prim.Native.Nat.{ℕ, zero, suc, ◌+◌, ◌≤◌, ◌<◌}
use mathlib.Core.Path.{◌≡◌, refl, sym, ap, ◌∙◌, subst}
use mathlib.Core.List.{List, [], ◌∷◌, ◌++◌, append_assoc}
use mathlib.Core.Bool.{Bool, true, false, cond}
use native.Mathlib.Omega.{arith}
use native.Mathlib.Nat.{add-zero}
use lib.ListN.{length, drop, length-append}
use lib.Dec.{ltb}
use borrow.Author.Tests.{lt-ltb, le-ltb}
use Rattle.kinds.specs.declared.kind.Kind.{Kind}
use Rattle.elements_rules.specs.Forest.{Element, Forest, none, node, whole, count}
use Rattle.elements_rules.specs.Rows.{row_of, rows, rows_of, nth}
use Rattle.elements_rules.specs.Theorems.{Each}
use Rattle.elements_rules.specs.declared.row.Row.{Row}
use Rattle.elements_rules.proofs.Family.{nth_seam}
use Rattle.elements_rules.proofs.Forests.{length_rows}
use Rattle.elements_rules.proofs.Jumps.{jumps_over}
use Rattle.elements_rules.proofs.Sound.{each_append, reads_a_tree}
use Rattle.fields_rules.specs.Children.{deeper, subtree, fits, children_from, children}
use Rattle.fields_rules.specs.Theorems.{SubtreeIsEnough, AllJumpAfterRead}
use Rattle.fields_rules.proofs.Rest.{either, other_parent}
use Rattle.std.proofs.Common.{Option, Some}

-- ---- what holds of the rows of elements

-- A row of another parent.
abbrev Other : ℕ → Row → Type 0
Other q r = r.parent ≡ q → ⊥

abbrev AtLeast : ℕ → Row → Type 0
AtLeast d r = d ≤ r.depth

-- The rows of elements are as deep as these elements, or deeper.
rows_deep : (x p d at n : ℕ) (f : Forest) → x ≤ d → Each (AtLeast x) (rows p d at n f)
unfolding Each rows
rows_deep x p d at n none l = tt
rows_deep x p d at n (node e kids rest) l = (
  l,
  each_append (AtLeast x) (rows (n + 1) (d + 1) (at + e.header.length) (n + 1) kids) _
      (rows_deep x (n + 1) (d + 1) (at + e.header.length) (n + 1) kids (omega arith))
      (rows_deep x p d (at + whole e) (n + 1 + count kids) rest l),
)

-- No row has a parent before the first of them, but the parent of them all.
rows_later : (q p d at n : ℕ) (f : Forest) → (p ≡ q → ⊥) → q ≤ n → Each (Other q) (rows p d at n f)
unfolding Each rows
rows_later q p d at n none o l = tt
rows_later q p d at n (node e kids rest) o l = (
  o,
  each_append (Other q) (rows (n + 1) (d + 1) (at + e.header.length) (n + 1) kids) _
      (rows_later q (n + 1) (d + 1) (at + e.header.length) (n + 1) kids (λ z. omega arith) (omega arith))
      (rows_later q p d (at + whole e) (n + 1 + count kids) rest o (omega arith)),
)

-- And none behind the last of them.
rows_sooner : (q p d at n : ℕ) (f : Forest) → (p ≡ q → ⊥) → n + count f < q → Each (Other q) (rows p d at n f)
unfolding Each rows count
rows_sooner q p d at n none o l = tt
rows_sooner q p d at n (node e kids rest) o l = (
  o,
  each_append (Other q) (rows (n + 1) (d + 1) (at + e.header.length) (n + 1) kids) _
      (rows_sooner q (n + 1) (d + 1) (at + e.header.length) (n + 1) kids (λ z. omega arith) (omega arith))
      (rows_sooner q p d (at + whole e) (n + 1 + count kids) rest o (omega arith)),
)

-- ---- the rows that are deeper

none_deeper : (x p d at n : ℕ) (f : Forest) → d ≤ x → deeper x (rows p d at n f) ≡ []
unfolding deeper rows
none_deeper x p d at n none l = refl
none_deeper x p d at n (node e kids rest) l = rw (le-ltb x d l)

stops_append : (x : ℕ) (rs ss : List Row) → deeper x rs ≡ [] → deeper x ss ≡ [] → deeper x (rs ++ ss) ≡ []
unfolding deeper
stops_append x [] ss a b = b
stops_append x (r ∷ rs) ss a b = go (ltb x r.depth) a
  where
    go : (c : Bool) → cond c (r ∷ deeper x rs) [] ≡ [] → cond c (r ∷ deeper x (rs ++ ss)) [] ≡ []
    go true e = let z : ◌≡◌ {A = ℕ} 0 1 = cc in absurd (omega arith)
    go false e = refl

deeper_just : (x : ℕ) (rs ss : List Row) → Each (AtLeast (x + 1)) rs → deeper x ss ≡ [] → deeper x (rs ++ ss) ≡ rs
unfolding deeper Each
deeper_just x [] ss a b = b
deeper_just x (r ∷ rs) ss a b =
    let l : x < r.depth = omega (arith, a.0) in
    rw (lt-ltb x r.depth l) (ap (λ (y : List Row). r ∷ y) (deeper_just x rs ss a.1 b))

-- ---- the rows on both sides of a master's row and of the rows below it

-- Rows from row n on, parted at row k, which is at least as deep as d.
record Parted (d n k : ℕ) (rs : List Row) : Type 0 where
  before : List Row
  master : Row
  inner : List Row
  after : List Row
  are : rs ≡ before ++ (master ∷ (inner ++ after))
  place : n + length before ≡ k
  floor : d ≤ master.depth
  jump : master.after ≡ k + 1 + length inner
  others_before : Each (Other (suc k)) before
  other : Other (suc k) master
  others_after : Each (Other (suc k)) after
  deep : Each (AtLeast (master.depth + 1)) inner
  stop : deeper master.depth after ≡ []

join_after : (before : List Row) (master : Row) (inner after more : List Row)
    → (before ++ (master ∷ (inner ++ after))) ++ more ≡ before ++ (master ∷ (inner ++ (after ++ more)))
join_after before master inner after more =
    append_assoc before (master ∷ (inner ++ after)) more
    ∙ ap (λ (y : List Row). before ++ (master ∷ y)) (append_assoc inner after more)

module _ (p d at n : ℕ) (e : Element) (kids rest : Forest) (low : p ≤ n) where
  abbrev own : Row
  own = row_of e p d at (n + 1 + count kids)

  abbrev below : List Row
  below = rows (n + 1) (d + 1) (at + e.header.length) (n + 1) kids

  abbrev behind : List Row
  behind = rows p d (at + whole e) (n + 1 + count kids) rest

  parted_here : (k : ℕ) → k ≡ n → Parted d n k (own ∷ (below ++ behind))
  unfolding Each
  parted_here k q = record {
    before = [];
    master = own;
    inner = below;
    after = behind;
    are = refl;
    place = omega arith;
    floor = omega arith;
    jump = omega (arith, length_rows (n + 1) (d + 1) (at + e.header.length) (n + 1) kids);
    others_before = tt;
    other = λ z. omega arith;
    others_after = rows_later (suc k) p d (at + whole e) (n + 1 + count kids) rest (λ z. omega arith) (omega arith);
    deep = rows_deep (d + 1) (n + 1) (d + 1) (at + e.header.length) (n + 1) kids (omega arith);
    stop = none_deeper d p d (at + whole e) (n + 1 + count kids) rest (omega arith);
  }

  parted_below : (k : ℕ) → n < k → k < n + 1 + count kids → Parted (d + 1) (n + 1) k below
      → Parted d n k (own ∷ (below ++ behind))
  unfolding Each
  parted_below k l h i = record {
    before = own ∷ i.before;
    master = i.master;
    inner = i.inner;
    after = i.after ++ behind;
    are =
        ap (λ (y : List Row). own ∷ (y ++ behind)) i.are
        ∙ ap (λ (y : List Row). own ∷ y) (join_after i.before i.master i.inner i.after behind);
    place = omega (arith, i.place);
    floor = omega (arith, i.floor);
    jump = i.jump;
    others_before = ((λ z. omega arith), i.others_before);
    other = i.other;
    others_after =
        each_append (Other (suc k)) i.after behind i.others_after
        (rows_later (suc k) p d (at + whole e) (n + 1 + count kids) rest (λ z. omega arith) (omega arith));
    deep = i.deep;
    stop =
        stops_append i.master.depth i.after behind i.stop
        (none_deeper i.master.depth p d (at + whole e) (n + 1 + count kids) rest (omega (arith, i.floor)));
  }

  parted_behind : (k : ℕ) → n + 1 + count kids ≤ k → Parted d (n + 1 + count kids) k behind
      → Parted d n k (own ∷ (below ++ behind))
  unfolding Each
  parted_behind k l i =
      let c = length_rows (n + 1) (d + 1) (at + e.header.length) (n + 1) kids in
      let m = length-append below i.before in
      record {
        before = own ∷ (below ++ i.before);
        master = i.master;
        inner = i.inner;
        after = i.after;
        are =
            ap (λ (y : List Row). own ∷ (below ++ y)) i.are
            ∙ ap (λ (y : List Row). own ∷ y) (sym (append_assoc below i.before _));
        place = omega (arith, i.place, c, m);
        floor = i.floor;
        jump = i.jump;
        others_before = (
          (λ z. omega arith),
          each_append (Other (suc k)) below i.before
              (rows_sooner (suc k) (n + 1) (d + 1) (at + e.header.length) (n + 1) kids (λ z. omega arith)
              (omega arith))
              i.others_before,
        );
        other = i.other;
        others_after = i.others_after;
        deep = i.deep;
        stop = i.stop;
      }

parted : (p d at n : ℕ) (f : Forest) (k : ℕ) → p ≤ n → n ≤ k → k < n + count f → Parted d n k (rows p d at n f)
unfolding rows count
parted p d at n none k low l h = absurd (omega arith)
parted p d at n (node e kids rest) k low l h =
    either n k
    (λ a.
    either k (n + 1 + count kids)
    (λ b.
    parted_below p d at n e kids rest low k a b
    (parted (n + 1) (d + 1) (at + e.header.length) (n + 1) kids k (omega arith) (omega arith) b))
    (λ b.
    parted_behind p d at n e kids rest low k b
    (parted p d (at + whole e) (n + 1 + count kids) rest k (omega arith) b (omega arith))))
    (λ a. parted_here p d at n e kids rest low k (omega arith))

-- ---- the children among such rows

module _ (parent id : ℕ) (kind : Kind) where
  abbrev from : ℕ → List Row → List (Option (ℕ × Row))
  from n rs = children_from n parent id kind rs

  skip_one : (n : ℕ) (r : Row) (rs : List Row) → Other parent r → from n (r ∷ rs) ≡ from (n + 1) rs
  unfolding children_from
  skip_one n r rs o = rw (← other_parent parent id kind r o)

  skip : (n : ℕ) (rs ss : List Row) → Each (Other parent) rs → from n (rs ++ ss) ≡ from (n + length rs) ss
  unfolding Each
  skip n [] ss a = ap (λ (m : ℕ). from m ss) (sym (add-zero n))
  skip n (r ∷ rs) ss a =
      let m : n + 1 + length rs ≡ n + suc (length rs) = omega arith in
      skip_one n r (rs ++ ss) a.0 ∙ skip (n + 1) rs ss a.1 ∙ ap (λ (y : ℕ). from y ss) m

  from_none : (n : ℕ) (rs : List Row) → Each (Other parent) rs → from n rs ≡ []
  unfolding Each children_from
  from_none n [] a = refl
  from_none n (r ∷ rs) a = skip_one n r rs a.0 ∙ from_none (n + 1) rs a.1

  drop_after : (n : ℕ) (rs ss : List Row) → Each (Other parent) ss → from n (rs ++ ss) ≡ from n rs
  unfolding children_from
  drop_after n [] ss a = from_none n ss a
  drop_after n (r ∷ rs) ss a =
      ap (λ (cs : List (Option (ℕ × Row))). cond (fits parent id kind r) (Some (n, r) ∷ cs) cs) (drop_after (n + 1) rs ss a)

drop_seam : (rs : List Row) (r : Row) (ss : List Row) → drop (suc (length rs)) (rs ++ (r ∷ ss)) ≡ ss
drop_seam [] r ss = refl
drop_seam (q ∷ rs) r ss = drop_seam rs r ss

module _ (k : ℕ) (rs : List Row) (i : Parted 0 0 k rs) where
  below_is : subtree rs (suc k) ≡ i.inner
  unfolding subtree
  below_is =
      let tail = i.inner ++ i.after in
      let m : k ≡ length i.before = omega (arith, i.place) in
      rw (i.are, m, nth_seam i.before i.master tail, drop_seam i.before i.master tail)
      (deeper_just i.master.depth i.inner i.after i.deep i.stop)

  all_are : (id : ℕ) (kind : Kind) → children_from 0 (suc k) id kind rs ≡ children (suc k) id kind i.inner
  all_are id kind =
      let tail = i.inner ++ i.after in
      let m : 0 + length i.before + 1 ≡ suc k = omega (arith, i.place) in
      ap (children_from 0 (suc k) id kind) i.are
      ∙ skip (suc k) id kind 0 i.before (i.master ∷ tail) i.others_before
      ∙ skip_one (suc k) id kind (0 + length i.before) i.master tail i.other
      ∙ ap (λ (y : ℕ). children_from y (suc k) id kind tail) m
      ∙ drop_after (suc k) id kind (suc k) i.inner i.after i.others_after

enough : (start : ℕ) (f : Forest) (parent id : ℕ) (kind : Kind) → parent ≤ count f
    → children parent id kind (subtree (rows 0 0 start 0 f) parent)
    ≡ children_from 0 parent id kind (rows 0 0 start 0 f)
unfolding subtree
enough start f zero id kind l = refl
enough start f (suc k) id kind l =
    let i = parted 0 0 start 0 f k (omega arith) (omega arith) (omega arith) in
    ap (children (suc k) id kind) (below_is k (rows 0 0 start 0 f) i)
    ∙ sym (all_are k (rows 0 0 start 0 f) i id kind)

pub subtree_is_enough : SubtreeIsEnough
subtree_is_enough live s start size under t n t' p parent id kind l =
    let a = reads_a_tree live s start size under t n t' p in
    rw a.preorder (enough start a.forest parent id kind (omega (arith, a.number)))

-- ---- each row jumps over the rows below it

pub all_jump : AllJumpAfterRead
all_jump live s start size under t n t' p k l =
    let a = reads_a_tree live s start size under t n t' p in
    let c = length_rows 0 0 start 0 a.forest in
    let i = subst (Parted 0 0 k) (sym a.preorder)
    (parted 0 0 start 0 a.forest k (omega arith) (omega arith) (omega (arith, a.number))) in
    let m : k ≡ length i.before = omega (arith, i.place) in
    let r : nth (rows_of t' n) k ≡ i.master
    = ap (λ (x : List Row). nth x k) i.are ∙ ap (nth (i.before ++ (i.master ∷ (i.inner ++ i.after)))) m
    ∙ nth_seam i.before i.master (i.inner ++ i.after) in
    let b = below_is k (rows_of t' n) i in
    record {
      jump = (jumps_over live s start size under t n t' p).1 k l;
      below = ap (λ (x : Row). x.after) r ∙ (omega (arith, i.jump, ap length b));
    }
