-- The last direct child is the last row that fits (`LastIsLast`). Assumes nothing.
use Prim.Native.Nat.{ℕ, zero, suc, ◌+◌, ◌<◌}
use mathlib.Core.Path.{◌≡◌, refl, sym, ap, ◌∙◌}
use mathlib.Core.List.{List, [], ◌∷◌}
use mathlib.Core.Bool.{Bool, true, false, cond}
use native.Mathlib.Omega.{arith}
use native.Mathlib.Nat.{add-zero}
use lib.ListN.{length}
use Rattle.kinds.specs.declared.kind.Kind.{Kind}
use Rattle.elements_rules.specs.Rows.{nth}
use Rattle.elements_rules.specs.declared.row.Row.{Row}
use Rattle.fields_rules.specs.Children.{fits, children_from, last_from}
use Rattle.fields_rules.specs.Theorems.{Last, none, last, LastIsLast}
use Rattle.std.proofs.Common.{Option, Some, None}

module _ (parent id : ℕ) (kind : Kind) where
  abbrev Fits : Row → Bool → Type 0
  Fits r b = fits parent id kind r ≡ b

  -- None of the rows fits after row k.
  abbrev NoneFrom : ℕ → List Row → Type 0
  NoneFrom k rs = (m : ℕ) → k < suc m → m < length rs → Fits (nth rs m) false

  -- What is left of c after rows that are counted from row `from` on.
  data Left (rs : List Row) (from : ℕ) (c : Option (ℕ × Row)) (to : Option (ℕ × Row)) : Type 0 where
    same : to ≡ c → NoneFrom 0 rs → Left rs from c to
    found :
        (k : ℕ) → k < length rs → Fits (nth rs k) true → to ≡ Some (from + k, nth rs k) → NoneFrom (suc k) rs
        → Left rs from c to

  module _ (x : Row) (rs : List Row) where
    next_none : (k : ℕ) → NoneFrom k rs → NoneFrom (suc k) (x ∷ rs)
    unfolding nth
    next_none k f zero l h = absurd (omega arith)
    next_none k f (suc m) l h = f m (omega arith) (omega arith)

    all_none : Fits x false → NoneFrom 0 rs → NoneFrom 0 (x ∷ rs)
    unfolding nth
    all_none d f zero l h = d
    all_none d f (suc m) l h = f m (omega arith) (omega arith)

    further : (from : ℕ) (c d to : Option (ℕ × Row)) → Left rs (from + 1) c to
        → (to ≡ c → NoneFrom 0 rs → Left (x ∷ rs) from d to)
        → Left (x ∷ rs) from d to
    unfolding nth
    further from c d to (same e f) g = g e f
    further from c d to (found k l h e f) g =
        let n : from + 1 + k ≡ from + suc k = omega arith in
        found (suc k) (omega arith) h (e ∙ ap (λ (m : ℕ). Some (m, nth rs k)) n) (next_none (suc k) f)

    first : (from : ℕ) (c to : Option (ℕ × Row)) → Fits x true → to ≡ Some (from, x) → NoneFrom 0 rs → Left (x ∷ rs) from c to
    unfolding nth
    first from c to d e f =
        found 0 (omega arith) d (e ∙ ap (λ (m : ℕ). Some (m, x)) (sym (add-zero from))) (next_none 0 f)

  left : (rs : List Row) (from : ℕ) (c : Option (ℕ × Row)) → Left rs from c (last_from c (children_from from parent id kind rs))
  unfolding last_from children_from
  left [] from c = same refl (λ m l h. absurd (omega arith))
  left (x ∷ rs) from c = go (fits parent id kind x) refl (λ e. left rs (from + 1) e)
    where
      go : (b : Bool) → Fits x b
          → ((e : Option (ℕ × Row)) → Left rs (from + 1) e (last_from e (children_from (from + 1) parent id kind rs)))
          → Left (x ∷ rs) from c
          (last_from c
          (cond b (Some (from, x) ∷ children_from (from + 1) parent id kind rs)
          (children_from (from + 1) parent id kind rs)))
      go true d more = further x rs from (Some (from, x)) c _ (more (Some (from, x))) (λ e f. first x rs from c _ d e f)
      go false d more = further x rs from c c _ (more c) (λ e f. same e (all_none x rs d f))

  decided : (rs : List Row) (to : Option (ℕ × Row)) → Left rs parent None to → Last parent id kind rs to
  decided rs to (same e f) = none e (λ m l. f m (omega arith) l)
  decided rs to (found k l h e f) = last k l h e (λ m g. f m (omega arith))

pub last_is_last : LastIsLast
last_is_last parent id kind below =
    decided parent id kind below _ (left parent id kind below parent None)
