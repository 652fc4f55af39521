-- What is left of a master's children at each row that a loop comes to. Assumes nothing.
use Prim.Native.Nat.{ℕ, zero, suc, ◌+◌, ◌-◌, ◌*◌, ◌≤◌, ◌<◌}
use mathlib.Core.Path.{◌≡◌, refl, sym, ap, ◌∙◌}
use mathlib.Core.List.{List, [], ◌∷◌}
use mathlib.Core.Bool.{Bool, true, false}
use native.Mathlib.Omega.{arith}
use lib.ListN.{drop}
use lib.Seq.{drop-drop}
use lib.Dec.{ltb, eqb}
use borrow.Author.Tests.{eq-eqb, ne_eqb, ltb-true, ltb-false}
use Rattle.kinds.specs.Kinds.{number_of}
use Rattle.kinds.specs.declared.kind.Kind.{Kind}
use Rattle.elements_rules.specs.Rows.{width, row_at, rows_of}
use Rattle.elements_rules.specs.declared.row.Row.{Row}
use Rattle.fields_rules.specs.Children.{fits, children_from}
use Rattle.fields_rules.specs.Contract.{Steps, Within}
use Rattle.fields_rules.specs.declared.child.Below.{Below}
use Rattle.std.proofs.Common.{Option, Some}

pub either : {A : Type 0} (a b : ℕ) → (a < b → A) → (b ≤ a → A) → A
either {A = A} a b f g = go (ltb a b) refl
  where
    go : (c : Bool) → ltb a b ≡ c → A
    go true e = f (ltb-true a b e)
    go false e = g (ltb-false a b e)

-- ---- the test of a row

module _ (parent id : ℕ) (kind : Kind) (r : Row) where
  pub other_parent : (r.parent ≡ parent → ⊥) → false ≡ fits parent id kind r
  unfolding fits
  other_parent a = rw (ne_eqb r.parent parent a)

  pub other_id : r.parent ≡ parent → (r.id ≡ id → ⊥) → false ≡ fits parent id kind r
  unfolding fits
  other_id a b = rw (eq-eqb r.parent parent a, ne_eqb r.id id b)

  pub by_kind :
      (n : ℕ) → r.parent ≡ parent → r.id ≡ id → n ≡ number_of kind → eqb r.kind n ≡ fits parent id kind r
  unfolding fits
  by_kind n a b e = rw (eq-eqb r.parent parent a, eq-eqb r.id id b, e)

-- ---- the rows from row n up to before row e

pub more_rows : (t : List ℕ) (e n : ℕ) → n < e
    → rows_of (drop (n * width) t) (e - n) ≡ row_at t n ∷ rows_of (drop ((n + 1) * width) t) (e - (n + 1))
unfolding rows_of row_at
more_rows t e n l =
    let f : e - n ≡ suc (e - (n + 1)) = omega arith in
    let d : n * width + width ≡ (n + 1) * width = omega arith in
    rw (f, drop-drop width (n * width) t, d)

pub no_rows : (t : List ℕ) (e n : ℕ) → e ≤ n → rows_of (drop (n * width) t) (e - n) ≡ []
unfolding rows_of
no_rows t e n l = let z : e - n ≡ 0 = omega arith in rw z

-- ---- the children among them

module _ (t : List ℕ) (parent id : ℕ) (kind : Kind) (e : ℕ) where
  abbrev pub rest : ℕ → List (Option (ℕ × Row))
  rest n = children_from n parent id kind (rows_of (drop (n * width) t) (e - n))

  module _ (n : ℕ) where
    pub rest_end : e ≤ n → rest n ≡ []
    unfolding children_from
    rest_end l = rw (no_rows t e n l)

    module _ (l : n < e) (r : Row) (q : r ≡ row_at t n) where
      pub rest_hit : true ≡ fits parent id kind r → rest n ≡ Some (n, r) ∷ rest (n + 1)
      unfolding children_from
      rest_hit f = rw (more_rows t e n l, ← q, ← f)

      pub rest_miss : false ≡ fits parent id kind r → rest n ≡ rest (n + 1)
      unfolding children_from
      rest_miss f = rw (more_rows t e n l, ← q, ← f)

  -- Rows of other parents are passed over at once.
  passed : (d n : ℕ) → n + d ≤ e → ((j : ℕ) → n ≤ j → j < n + d → (row_at t j).parent ≡ parent → ⊥)
      → rest n ≡ rest (n + d)
  passed zero n l o = let z : n ≡ n + 0 = omega arith in ap rest z
  passed (suc d) n l o =
      let z : n + 1 + d ≡ n + suc d = omega arith in
      let miss = other_parent parent id kind (row_at t n) (o n (omega arith) (omega arith)) in
      rest_miss n (omega arith) (row_at t n) refl miss
      ∙ passed d (n + 1) (omega arith) (λ j a b. o j (omega arith) (omega arith)) ∙ ap rest z

  pub onward : (n : ℕ) (r : Row) → r ≡ row_at t n → parent ≤ n → Steps t e n → rest (n + 1) ≡ rest r.after
  onward n r q l s =
      let a : r.after ≡ (row_at t n).after = ap (λ (x : Row). x.after) q in
      let z : n + 1 + (r.after - (n + 1)) ≡ r.after = omega (arith, s.ahead) in
      passed (r.after - (n + 1)) (n + 1) (omega (arith, s.ahead, s.held))
      (λ j x y w. omega (arith, s.over j (omega arith) (omega (arith, s.ahead)))) ∙ ap rest z

-- ---- one turn: a row that is a child is the first of those that were left; the rows below the row are passed over

module _ {t : List ℕ} {b : Below} (w : Within t b) (id : ℕ) (kind : Kind) {n : ℕ} (k : b.parent ≤ n) (l : n < b.end) {r : Row}
    (q : r ≡ row_at t n) where
  abbrev steps : Steps t b.end n
  steps = w.steps n k l

  -- It goes on behind the row, among the same rows.
  pub ahead : (n < r.after) × (r.after ≤ b.end)
  ahead =
      let a : r.after ≡ (row_at t n).after = ap (λ (x : Row). x.after) q in
      omega (arith, steps.ahead, steps.held)

  over : rest t b.parent id kind b.end (n + 1) ≡ rest t b.parent id kind b.end r.after
  over = onward t b.parent id kind b.end n r q k steps

  module _ {ok : Bool} (o : ok ≡ fits b.parent id kind r) where
    pub turn_hit : ok ≡ true
        → rest t b.parent id kind b.end n ≡ Some (n, r) ∷ rest t b.parent id kind b.end r.after
    turn_hit f =
        rest_hit t b.parent id kind b.end n l r q (sym f ∙ o) ∙ ap (λ (cs : List (Option (ℕ × Row))). Some (n, r) ∷ cs) over

    pub turn_miss : ok ≡ false → rest t b.parent id kind b.end n ≡ rest t b.parent id kind b.end r.after
    turn_miss f = rest_miss t b.parent id kind b.end n l r q (sym f ∙ o) ∙ over
