-- The rows below a master: those that its row jumps over. Assumes nothing.
use Prim.Native.Nat.{ℕ, zero, suc, ◌-◌, ◌*◌, ◌≤◌, ◌<◌}
use mathlib.Core.Path.{◌≡◌, refl, sym, ap, ◌∙◌}
use mathlib.Core.List.{List, [], ◌∷◌}
use mathlib.Core.Bool.{Bool, true, false, cond}
use native.Mathlib.Omega.{arith}
use native.Mathlib.Nat.{sub-zero}
use lib.ListN.{length, drop}
use lib.Dec.{ltb}
use Rattle.elements_rules.specs.Rows.{width, first_row, row_at, rows_of, nth}
use Rattle.elements_rules.specs.Jumps.{Descends, child, deeper as further, Jump}
use Rattle.elements_rules.specs.declared.row.Row.{Row}
use Rattle.elements_rules.proofs.Numbered.{length_rows_of, row_of_law, drop_rows}
use Rattle.fields_rules.specs.Children.{deeper, subtree}
use Rattle.fields_rules.specs.Contract.{Steps, BelowIs, Ordered}
use Rattle.fields_rules.proofs.Rest.{either}

-- The rows from row k up to before row n.
abbrev pub between : List ℕ → ℕ → ℕ → List Row
between t k n = rows_of (drop (k * width) t) (n - k)

-- ---- rows that jump

module _ (rs : List Row) (all : (k : ℕ) → k < length rs → Jump rs k) where
  through : (k j x : ℕ) → Descends rs k j → Descends rs j x → Descends rs k x
  through k j _ d (child x q) = further x j q d
  through k j _ d (further x m q e) = further x m q (through k j m d e)

  over : (k : ℕ) (l : k < length rs) (j : ℕ) → Descends rs k j → k < (nth rs j).parent
  over k l _ (child j q) = omega arith
  over k l _ (further j m q d) = let h = (all k l).only m d in omega arith

  nested : (k : ℕ) (l : k < length rs) (j : ℕ) → k < j → j < (nth rs k).after → (nth rs j).after ≤ (nth rs k).after
  nested k l j a b =
      let m : j < length rs = omega (arith, (all k l).held) in
      either (nth rs k).after (nth rs j).after
      (λ x.
      let d = (all j m).inside (nth rs k).after (omega arith) x in
      let h = (all k l).only (nth rs k).after (through k j (nth rs k).after ((all k l).inside j a b) d) in
      absurd (omega arith))
      (λ x. x)

-- ---- the rows below a row

below_row : (t : List ℕ) (rows parent : ℕ) (master : Row) → parent ≤ rows → (parent ≡ 0 → ⊥)
    → master ≡ row_at t (parent - 1)
    → subtree (rows_of t rows) parent ≡ deeper master.depth (between t parent rows)
unfolding subtree
below_row t rows zero master l z q = absurd (z refl)
below_row t rows (suc n) master l z q =
    let p : suc n - 1 ≡ n = omega arith in
    let r : nth (rows_of t rows) n ≡ master = row_of_law t rows n (omega arith) ∙ sym (q ∙ ap (row_at t) p) in
    rw (r, drop_rows t rows (suc n) l)

-- A beginning of rows, by its length.
deeper_first : (depth : ℕ) (t : List ℕ) (n : ℕ)
    → deeper depth (rows_of t n) ≡ rows_of t (length (deeper depth (rows_of t n)))
unfolding deeper rows_of
deeper_first depth t zero = refl
deeper_first depth t (suc n) = go (ltb depth (first_row t).depth) (deeper_first depth (drop width t) n)
  where
    go : (b : Bool)
        → deeper depth (rows_of (drop width t) n)
        ≡ rows_of (drop width t) (length (deeper depth (rows_of (drop width t) n)))
        → cond b (first_row t ∷ deeper depth (rows_of (drop width t) n)) []
        ≡ rows_of t (length (cond b (first_row t ∷ deeper depth (rows_of (drop width t) n)) []))
    go true h = ap (λ (x : List Row). first_row t ∷ x) h
    go false h = refl

module _ (t : List ℕ) (rows : ℕ) (o : Ordered t rows) where
  abbrev rs : List Row
  rs = rows_of t rows

  long : length rs ≡ rows
  long = length_rows_of t rows

  jumps : (k : ℕ) → k < length rs → Jump rs k
  jumps k l = (o.jumps k (omega (arith, long))).jump

  -- Row n among rows up to before `end`, which it does not jump past.
  steps_at : (end n : ℕ) (l : n < rows) → (nth rs n).after ≤ end → Steps t end n
  steps_at end n l h =
      let m : n < length rs = omega (arith, long) in
      let j = jumps n m in
      let e : nth rs n ≡ row_at t n = row_of_law t rows n l in
      let a : (nth rs n).after ≡ (row_at t n).after = ap (λ (r : Row). r.after) e in
      record {
        ahead = omega (arith, j.ahead);
        held = omega arith;
        over = λ i x y.
            let u : i < rows = omega (arith, j.held, long) in
            let p : (nth rs i).parent ≡ (row_at t i).parent = ap (λ (r : Row). r.parent) (row_of_law t rows i u) in
            omega (arith, over rs jumps n m i (j.inside i x (omega arith)));
      }

  pub whole : (parent : ℕ) → parent ≡ 0 → BelowIs t rows parent (record { parent = parent; end = rows })
  unfolding subtree
  whole parent z =
      record {
        master = refl;
        some = omega arith;
        held = omega arith;
        are = rw (z, sub-zero rows);
        steps = λ n a b. steps_at rows n b (omega (arith, (jumps n (omega (arith, long))).held, long));
      }

  pub jumped : (parent : ℕ) (master : Row) → parent ≤ rows → (parent ≡ 0 → ⊥) → master ≡ row_at t (parent - 1)
      → BelowIs t rows parent (record { parent = parent; end = master.after })
  jumped zero master l z q = absurd (z refl)
  jumped (suc k) master l z q =
      let p : suc k - 1 ≡ k = omega arith in
      let v : k < length rs = omega (arith, long) in
      let j = jumps k v in
      let e : nth rs k ≡ master = row_of_law t rows k (omega arith) ∙ sym (q ∙ ap (row_at t) p) in
      let a : (nth rs k).after ≡ master.after = ap (λ (r : Row). r.after) e in
      let s = below_row t rows (suc k) master l z q in
      let c : length (subtree rs (suc k)) ≡ master.after - suc k = omega (arith, (o.jumps k (omega arith)).below) in
      record {
        master = refl;
        some = omega (arith, j.ahead);
        held = omega (arith, j.held, long);
        are =
            sym (s ∙ deeper_first master.depth (drop (suc k * width) t) (rows - suc k)
            ∙ ap (rows_of (drop (suc k * width) t)) (sym (ap length s) ∙ c));
        steps = λ n x y.
            let u : n < rows = omega (arith, j.held, long) in
            steps_at master.after n u (omega (arith, nested rs jumps k v n (omega arith) (omega arith)));
      }
