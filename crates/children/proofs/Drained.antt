-- What the methods of an iterator over children give: the last of them, the k-th, and how many. Assumes nothing.
use Prim.Native.Nat.{ℕ, zero, suc, ◌+◌, ◌-◌, ◌*◌, ◌≤◌}
use mathlib.Core.Path.{◌≡◌, refl, ap, ◌∙◌}
use mathlib.Core.List.{List, [], ◌∷◌}
use mathlib.Core.Bool.{Bool, true, false, cond}
use native.Mathlib.Omega.{arith}
use lib.ListN.{length, drop}
use Rattle.kinds.specs.declared.kind.Kind.{Kind}
use Rattle.elements_rules.specs.Rows.{width}
use Rattle.elements_rules.proofs.Numbered.{length_rows_of}
use Rattle.elements_rules.specs.declared.row.Row.{Row}
use Rattle.fields_rules.specs.Children.{fits, children, rows_in, children_from, last_from, last_of, nth_of}
use Rattle.fields_rules.specs.declared.child.Below.{Below}
use Rattle.std.proofs.Common.{Option, Some, None, map, option_map, slice_get}
use Rattle.std.specs.List.{last_or}
use Rattle.std.specs.Iterator.{YieldsFirstBy, Drains}
use Rattle.std.proofs.lemmas.Iterator.{YieldsList, items_from_drains}
use Rattle.std.proofs.lemmas.Iterator.Consumers.{YieldsList-from_first}

-- What an iterator gives up to its end is the list that it shows; the last item of it is the last child.
module _ {S : Type 0} (left : S → List (Option (ℕ × Row))) {s : S} {all : List (Option (ℕ × Row))} (e : left s ≡ all) where
  abbrev steps : S → Option (ℕ × Row) → S → Type 0
  steps = YieldsFirstBy (λ (c : ℕ × Row). Some c) left

  pub shown : YieldsList steps (λ (c : ℕ × Row). Some c) s all
  shown = YieldsList-from_first (λ (c : ℕ × Row). Some c) left all e

  last_in : (xs : List (ℕ × Row)) (c : Option (ℕ × Row)) → last_or c xs ≡ last_from c (map (λ (x : ℕ × Row). Some x) xs)
  unfolding last_from
  last_in [] c = refl
  last_in (x ∷ xs) c = last_in xs (Some x)

  pub last_is : {r : Option (ℕ × Row)} → (xs : List (ℕ × Row)) × Drains steps s xs × (r ≡ last_or None xs) → r ≡ last_of all
  last_is (xs, (u, (t, y, n)), q) =
      q ∙ last_in xs None ∙ ap last_of (items_from_drains xs (t, y, λ w. (u, n)) shown)

pub picked : (cs : List (Option (ℕ × Row))) (k : ℕ) (r : Option (ℕ × Row)) → option_map (λ (x : ℕ × Row). Some x) r ≡ slice_get cs k
    → r ≡ nth_of k cs
unfolding nth_of
picked [] k None e = refl
picked [] k (Some x) e = cc
picked (c ∷ cs) zero None e = cc
picked (c ∷ cs) zero (Some x) e = cc
picked (c ∷ cs) (suc k) r e = picked cs k r e

-- There are no more children than rows.
no_more : (n parent id : ℕ) (kind : Kind) (rs : List Row) → length (children_from n parent id kind rs) ≤ length rs
unfolding children_from
no_more n parent id kind [] = omega arith
no_more n parent id kind (r ∷ rs) = go (fits parent id kind r) (no_more (n + 1) parent id kind rs)
  where
    go : (b : Bool) → length (children_from (n + 1) parent id kind rs) ≤ length rs
        → length (cond b (Some (n, r) ∷ children_from (n + 1) parent id kind rs) (children_from (n + 1) parent id kind rs)) ≤ suc (length rs)
    go true l = omega (arith, l)
    go false l = omega (arith, l)

pub as_many : (t : List ℕ) (b : Below) (id : ℕ) (kind : Kind) → length (children b.parent id kind (rows_in t b)) ≤ b.end
as_many t b id kind =
    let few = no_more b.parent b.parent id kind (rows_in t b) in
    let rows = length_rows_of (drop (b.parent * width) t) (b.end - b.parent) in
    omega (arith, few, rows)
