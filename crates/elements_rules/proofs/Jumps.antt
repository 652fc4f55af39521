-- The last number of a row jumps over its descendants (`JumpsOver`, `NestedJumps`). Assumes nothing.
use Prim.Native.Nat.{ℕ, zero, suc, ◌+◌, ◌-◌, ◌*◌, ◌≤◌, ◌<◌}
use mathlib.Core.Path.{◌≡◌, refl, sym, ap, ◌∙◌, subst}
use mathlib.Core.List.{List, [], ◌∷◌, ◌++◌, append_assoc}
use mathlib.Core.Logic.{◌⊎◌, inl, inr, ⊎_elim}
use mathlib.Core.Bool.{Bool, true, false}
use native.Mathlib.Omega.{arith}
use lib.ListN.{length, length-append}
use lib.Dec.{ltb}
use borrow.Author.Tests.{ltb-true, ltb-false}
use Rattle.header.specs.Vint.{octet_bits, bits, one_more, width_of, big_endian_from, big_endian, of_width, vint_of}
use Rattle.header.specs.Header.{sized, named, header_of}
use Rattle.refusals.specs.Reply.{accepted}
use Rattle.sizes.specs.Unknown.{unknown}
use Rattle.kinds.specs.Elements.{elements}
use Rattle.kinds.specs.Kinds.{kind_in, keeps, kind_under}
use Rattle.bodies_rules.specs.Bodies.{body_of}
use Rattle.elements_rules.specs.Forest.{Forest, none, node, whole, span, count, join}
use Rattle.elements_rules.specs.Reading.{Outcome, refuse_if, full, siblings, element, master_body}
use Rattle.elements_rules.specs.Rows.{rows, width, flat, flatten, nth}
use Rattle.elements_rules.specs.Promise.{is_table, allowed, filled, read_of, reply_of, table_of}
use Rattle.elements_rules.specs.Theorems.{Each}
use Rattle.elements_rules.specs.Jumps.{Descends, child, deeper, Jump, JumpsOver, nested, nested_table, NestedJumps}
use Rattle.elements_rules.specs.declared.row.Row.{Row}
use Rattle.elements_rules.proofs.Forests.{length_rows}
use Rattle.elements_rules.proofs.Family.{nth_before}
use Rattle.elements_rules.proofs.Sound.{each_append, reads_a_tree}
use Rattle.elements_rules.proofs.Numbered.{each_at, length_rows_of}
use Rattle.elements_rules.proofs.Useless.{rows_told}

either : {A : Type 0} (a b : ℕ) → (a < b → A) → (b ≤ a → A) → A
either {A = A} a b f g = go (ltb a b) refl
  where
    go : (c : Bool) → ltb a b ≡ c → A
    go true e = f (ltb-true a b e)
    go false e = g (ltb-false a b e)

-- ---- how rows lie in their list

-- A row whose parent stands before row k + 1, or behind row a: it is no child of the rows from k up to before a.
abbrev Far : ℕ → ℕ → Row → Type 0
Far k a r = (r.parent ≤ k) ⊎ (a < r.parent)

abbrev Within : ℕ → Row → Type 0
Within k r = k < r.parent

-- Row k, with the rows behind it: those that it jumps over have parents from k on, the others do not.
record Lies (k : ℕ) (r : Row) (rs : List Row) : Type 0 where
  below : List Row
  behind : List Row
  are : rs ≡ below ++ behind
  after : r.after ≡ k + 1 + length below
  parent : r.parent ≤ k
  inner : Each (Within k) below
  outer : Each (Far k r.after) behind

unfoldable Lie : ℕ → List Row → Type 0
Lie k [] = Unit
Lie k (r ∷ rs) = Lies k r rs × Lie (k + 1) rs

far_weaker : (m n k a : ℕ) (rs : List Row) → m ≤ k → a ≤ n → Each (Far m n) rs → Each (Far k a) rs
unfolding Each
far_weaker m n k a [] l h e = tt
far_weaker m n k a (r ∷ rs) l h e =
    (⊎_elim (λ x. inl (omega arith)) (λ x. inr (omega arith)) e.0, far_weaker m n k a rs l h e.1)

-- Rows, and then others that are far from them all.
lie_append : (m k : ℕ) (rs ss : List Row) → m ≤ k → Lie k rs → Each (Far m (k + length rs)) ss
    → Lie (k + length rs) ss → Lie k (rs ++ ss)
unfolding Lie Each
lie_append m k [] ss l a f b = let z : k + 0 ≡ k = omega arith in subst (λ (x : ℕ). Lie x ss) z b
lie_append m k (r ∷ rs) ss l a f b =
    let i = a.0 in
    let z : k + suc (length rs) ≡ k + 1 + length rs = omega arith in
    let c = length-append i.below i.behind in
    let h = ap length i.are in
    let f' = subst (λ (x : ℕ). Each (Far m x) ss) z f in
    let b' = subst (λ (x : ℕ). Lie x ss) z b in (
      record {
        below = i.below;
        behind = i.behind ++ ss;
        are = ap (λ (x : List Row). x ++ ss) i.are ∙ append_assoc i.below i.behind ss;
        after = i.after;
        parent = i.parent;
        inner = i.inner;
        outer =
            each_append (Far k r.after) i.behind ss i.outer
            (far_weaker m (k + 1 + length rs) k r.after ss l (omega (arith, i.after, c, h)) f');
      },
      lie_append m (k + 1) rs ss (omega arith) a.1 f' b',
    )

each_map : (P Q : Row → Type 0) (rs : List Row) → ((r : Row) → P r → Q r) → Each P rs → Each Q rs
unfolding Each
each_map P Q [] w a = tt
each_map P Q (r ∷ rs) w a = (w r a.0, each_map P Q rs w a.1)

-- The rows of elements have their parent, or one among themselves.
abbrev Own : ℕ → ℕ → Row → Type 0
Own p n r = (r.parent ≡ p) ⊎ (n < r.parent)

parents : (p d at n : ℕ) (f : Forest) → Each (Own p n) (rows p d at n f)
unfolding Each rows
parents p d at n none = tt
parents p d at n (node e kids rest) =
    let inner = rows (n + 1) (d + 1) (at + e.header.length) (n + 1) kids in
    let others = rows p d (at + whole e) (n + 1 + count kids) rest in (
      inl refl,
      each_append (Own p n) inner others
          (each_map (Own (n + 1) (n + 1)) (Own p n) inner
          (λ r. ⊎_elim (λ x. inr (omega arith)) (λ x. inr (omega arith)))
          (parents (n + 1) (d + 1) (at + e.header.length) (n + 1) kids))
          (each_map (Own p (n + 1 + count kids)) (Own p n) others
          (λ r. ⊎_elim (λ x. inl x) (λ x. inr (omega arith)))
          (parents p d (at + whole e) (n + 1 + count kids) rest)),
    )

rows_lie : (p d at n : ℕ) (f : Forest) → p ≤ n → Lie n (rows p d at n f)
unfolding Lie rows
rows_lie p d at n none l = tt
rows_lie p d at n (node e kids rest) l =
    let inner = rows (n + 1) (d + 1) (at + e.header.length) (n + 1) kids in
    let others = rows p d (at + whole e) (n + 1 + count kids) rest in
    let c : length inner ≡ count kids = length_rows (n + 1) (d + 1) (at + e.header.length) (n + 1) kids in
    let z : n + 1 + count kids ≡ n + 1 + length inner = omega arith in
    let own = parents p d (at + whole e) (n + 1 + count kids) rest in (
      record {
        below = inner;
        behind = others;
        are = refl;
        after = z;
        parent = l;
        inner =
            each_map (Own (n + 1) (n + 1)) (Within n) inner
            (λ r. ⊎_elim (λ x. omega arith) (λ x. omega arith))
            (parents (n + 1) (d + 1) (at + e.header.length) (n + 1) kids);
        outer =
            each_map (Own p (n + 1 + count kids)) (Far n (n + 1 + count kids)) others
            (λ r. ⊎_elim (λ x. inl (omega arith)) (λ x. inr x)) own;
      },
      lie_append n (n + 1) inner others (omega arith)
          (rows_lie (n + 1) (d + 1) (at + e.header.length) (n + 1) kids (omega arith))
          (each_map (Own p (n + 1 + count kids)) (Far n (n + 1 + length inner)) others
          (λ r. ⊎_elim (λ x. inl (omega arith)) (λ x. inr (omega arith))) own)
          (subst (λ (x : ℕ). Lie x others) z
          (rows_lie p d (at + whole e) (n + 1 + count kids) rest (omega arith))),
    )

-- ---- row k of such a list

nth_past : (rs ss : List Row) (j : ℕ) → length rs ≤ j → nth (rs ++ ss) j ≡ nth ss (j - length rs)
unfolding nth
nth_past [] ss j l = let z : j ≡ j - 0 = omega arith in ap (nth ss) z
nth_past (r ∷ rs) ss zero l = absurd (omega arith)
nth_past (r ∷ rs) ss (suc j) l =
    let z : j - length rs ≡ suc j - suc (length rs) = omega arith in
    nth_past rs ss j (omega arith) ∙ ap (nth ss) z

nth_none : (rs : List Row) (j : ℕ) → length rs ≤ j → (nth rs j).parent ≡ 0
unfolding nth
nth_none [] j l = refl
nth_none (r ∷ rs) zero l = absurd (omega arith)
nth_none (r ∷ rs) (suc j) l = nth_none rs j (omega arith)

-- Row n + i of rows from row n on, with the rows up to it.
record LiesAt (n : ℕ) (rs : List Row) (i : ℕ) : Type 0 where
  front : List Row
  rest : List Row
  are : rs ≡ front ++ rest
  upto : length front ≡ i + 1
  lies : Lies (n + i) (nth rs i) rest

lies_at : (n : ℕ) (rs : List Row) → Lie n rs → (i : ℕ) → i < length rs → LiesAt n rs i
unfolding Lie nth
lies_at n [] a i l = absurd (omega arith)
lies_at n (r ∷ rs) a zero l =
    let z : n ≡ n + 0 = omega arith in
    record { front = r ∷ []; rest = rs; are = refl; upto = omega arith; lies = subst (λ (x : ℕ). Lies x r rs) z a.0 }
lies_at n (r ∷ rs) a (suc i) l =
    let h = lies_at (n + 1) rs a.1 i (omega arith) in
    let z : n + 1 + i ≡ n + suc i = omega arith in
    record {
      front = r ∷ h.front;
      rest = h.rest;
      are = ap (λ (x : List Row). r ∷ x) h.are;
      upto = omega (arith, h.upto);
      lies = subst (λ (x : ℕ). Lies x (nth rs i) h.rest) z h.lies;
    }

module _ (rs : List Row) (a : Lie 0 rs) where
  abbrev after : ℕ → ℕ
  after k = (nth rs k).after

  abbrev parent : ℕ → ℕ
  parent k = (nth rs k).parent

  module _ (k : ℕ) (l : k < length rs) where
    here : LiesAt 0 rs k
    here = lies_at 0 rs a k l

    lies : Lies k (nth rs k) here.rest
    lies = let z : 0 + k ≡ k = omega arith in subst (λ (x : ℕ). Lies x (nth rs k) here.rest) z here.lies

    ahead : k < after k
    ahead = omega (arith, lies.after)

    held : after k ≤ length rs
    held =
        omega (
          arith,
          lies.after,
          here.upto,
          ap length here.are ∙ length-append here.front here.rest,
          ap length lies.are ∙ length-append lies.below lies.behind,
        )

    low : parent k ≤ k
    low = lies.parent

    at_rest : (j : ℕ) → k < j → nth rs j ≡ nth (lies.below ++ lies.behind) (j - (k + 1))
    at_rest j h =
        let z : j - length here.front ≡ j - (k + 1) = omega (arith, here.upto) in
        ap (λ (x : List Row). nth x j) here.are
        ∙ nth_past here.front here.rest j (omega (arith, here.upto))
        ∙ ap (nth here.rest) z ∙ ap (λ (x : List Row). nth x (j - (k + 1))) lies.are

    inner : (j : ℕ) → k < j → j < after k → k < parent j
    inner j h m =
        let i : j - (k + 1) < length lies.below = omega (arith, lies.after) in
        subst (Within k) (sym (at_rest j h ∙ nth_before lies.below lies.behind (j - (k + 1)) i))
        (each_at (Within k) lies.below (j - (k + 1)) i lies.inner)

    outer : (j : ℕ) → after k ≤ j → j < length rs → Far k (after k) (nth rs j)
    outer j h m =
        let b = length lies.below in
        let i : b ≤ j - (k + 1) = omega (arith, lies.after) in
        let o : j - (k + 1) - b < length lies.behind = omega (
          arith,
          lies.after,
          here.upto,
          ap length here.are ∙ length-append here.front here.rest,
          ap length lies.are ∙ length-append lies.below lies.behind,
        ) in
        subst (Far k (after k))
        (sym (at_rest j (omega (arith, lies.after)) ∙ nth_past lies.below lies.behind (j - (k + 1)) i))
        (each_at (Far k (after k)) lies.behind (j - (k + 1) - b) o lies.outer)

    -- A row whose parent is row k, or one that k jumps over, is jumped over too.
    jumped : (j m : ℕ) → parent j ≡ suc m → k ≤ m → m < after k → j < after k
    jumped j m q i h =
        either j (after k) (λ x. x) (λ x.
        either j (length rs)
        (λ y. absurd (⊎_elim (λ z. omega arith) (λ z. omega arith) (outer j x y)))
        (λ y. let z = nth_none rs j y in absurd (omega arith)))

  inside_list : (j m : ℕ) → parent j ≡ suc m → j < length rs
  inside_list j m q = either j (length rs) (λ x. x) (λ x. let z = nth_none rs j x in absurd (omega arith))

  child_of : (j m : ℕ) → parent j ≡ suc m → (m < j) × (j < length rs)
  child_of j m q = let l = inside_list j m q in (omega (arith, low j l), l)

  module _ (k : ℕ) (l : k < length rs) where
    only : (j : ℕ) → Descends rs k j → (k < j) × (j < after k)
    only _ (child j q) =
        let h = ahead k l in
        ((child_of j k q).0, jumped k l j k q (omega arith) h)
    only _ (deeper j m q d) =
        let (x, y) = only m d in
        let z = (child_of j m q).0 in
        (omega arith, jumped k l j m q (omega arith) y)

    inside : (most j : ℕ) → j ≤ most → k < j → j < after k → Descends rs k j
    inside zero j b h m = absurd (omega arith)
    inside (suc most) j b h m =
        let p = inner k l j h m in
        let i = low j (omega (arith, held k l)) in
        let q : parent j ≡ suc (parent j - 1) = omega arith in
        either k (parent j - 1)
        (λ x. deeper j (parent j - 1) q (inside most (parent j - 1) (omega arith) x (omega arith)))
        (λ x. child j (omega arith))

    sibling : (j : ℕ) → k < j → j < length rs → parent j ≡ parent k → (after k ≤ j) × (parent (after k) ≡ parent k)
    sibling j h i q =
        let b = low k l in
        let c = ahead k l in
        either j (after k)
        (λ x. let z = inner k l j h x in absurd (omega arith))
        (λ x.
        let m : after k < length rs = omega arith in
        let n = low (after k) m in
        let p : parent (after k) ≤ k
        = ⊎_elim (λ z. z) (λ z. absurd (omega arith)) (outer k l (after k) (omega arith) m) in
        let down : parent k ≤ parent (after k)
        = either 0 (parent k)
        (λ z.
        let v : parent k - 1 < length rs = omega arith in
        let u : parent j ≡ suc (parent k - 1) = omega arith in
        let w = jumped (parent k - 1) v j (parent k - 1) u (omega arith) (ahead (parent k - 1) v) in
        let y = inner (parent k - 1) v (after k) (omega arith) (omega arith) in
        omega arith)
        (λ z. omega arith) in
        let up : parent (after k) ≤ parent k
        = either 0 (parent (after k))
        (λ z.
        let v : parent (after k) - 1 < length rs = omega arith in
        let u : parent (after k) ≡ suc (parent (after k) - 1) = omega arith in
        let w = jumped (parent (after k) - 1) v (after k) (parent (after k) - 1) u (omega arith)
        (ahead (parent (after k) - 1) v) in
        let y = inner (parent (after k) - 1) v k (omega arith) (omega arith) in
        omega arith)
        (λ z. omega arith) in
        (x, omega arith))

    jump : Jump rs k
    jump = record {
      ahead = ahead k l;
      held = held k l;
      inside = λ j. inside j j (omega arith);
      only = only;
      sibling = sibling;
    }

pub jumps_over : JumpsOver
jumps_over live s start size parent t n t' p =
    let a = reads_a_tree live s start size parent t n t' p in
    let lie = subst (Lie 0) (sym a.preorder) (rows_lie 0 0 start 0 a.forest (omega arith)) in
    (length_rows_of t' n, λ k l. jump _ lie k (omega (arith, length_rows_of t' n)))

-- ---- a payload, computed

abbrev read_nested : (live : Bool) → Outcome
read_nested live = read_of live nested 0 8 0 (4 * width)

unfoldable computed : (live : Bool) → Type 0
computed live =
    (reply_of (read_nested live) ≡ accepted 4) × (table_of 0 (4 * width) (read_nested live) ≡ nested_table)

nested_read : (live : Bool) → computed live
unfolding computed octet_bits bits one_more width_of big_endian_from big_endian of_width vint_of sized named header_of
    elements kind_in keeps kind_under span body_of count join refuse_if full siblings element master_body rows flat flatten
    is_table allowed filled read_of table_of unknown
nested_read true = (refl, refl)
nested_read false = (refl, refl)

pub nested_jumps : NestedJumps
unfolding computed
nested_jumps live t r t' l p =
    let a = ap (λ (n : ℕ). reply_of (read_of live nested 0 8 0 n)) l in
    let b = ap (λ (n : ℕ). table_of 0 n (read_of live nested 0 8 0 n)) l in
    (rows_told r 4 (p.reply ∙ a ∙ (nested_read live).0), p.table ∙ b ∙ (nested_read live).1)
