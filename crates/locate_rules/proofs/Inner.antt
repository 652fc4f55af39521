-- A master inside the master of a record: its rows stand among those that were read, and its fields are those of its
-- own rows. Assumes nothing.
use Prim.Native.Nat.{ℕ, suc, ◌+◌, ◌^◌, ◌≤◌, ◌<◌}
use mathlib.Core.Path.{◌≡◌, sym, ap, ◌∙◌, subst}
use mathlib.Core.List.{List}
use native.Mathlib.Omega.{arith}
use lib.ListN.{length}
use Rattle.kinds.specs.declared.kind.Kind.TheVariants.{Master}
use Rattle.elements_rules.specs.Rows.{rows_of}
use Rattle.elements_rules.specs.declared.row.Row.{Row}
use Rattle.elements_rules.proofs.Numbered.{length_rows_of}
use Rattle.fields_rules.specs.Children.{subtree, children, last_of, rows_in}
use Rattle.fields_rules.specs.Contract.{BelowIs, Readable}
use Rattle.fields_rules.specs.declared.child.Below.{Below}
use Rattle.locate_rules.specs.Contract.{Filled, Stands}
use Rattle.locate_rules.proofs.Ways.{last_known, readable}
use Rattle.std.proofs.Common.{Option, Some}

-- The last master of an id inside, as it is looked up.
abbrev pub last_inner : List ℕ → Below → ℕ → Option (ℕ × Row)
last_inner t b id = last_of (children b.parent id Master (rows_in t b))

module _ {s t : List ℕ} {rows : ℕ} {b : Below} (h : Stands s t rows b) (id : ℕ) {c : (Option (ℕ × Row))}
    (e : c ≡ last_inner t b id) where
  -- It is the one that the definitions name.
  pub inner_is : c ≡ last_of (children b.parent id Master (subtree (rows_of t rows) b.parent))
  inner_is = e ∙ ap (λ (x : List Row). last_of (children b.parent id Master x)) h.below.are

  pub inner_known : {n : ℕ} {r : Row} → c ≡ Some (n, r) → n + 1 ≤ rows
  inner_known {n} {r} a =
      let w = length_rows_of t rows in
      let l : b.parent ≤ length (rows_of t rows) = omega (arith, h.below.some, h.below.held) in
      let k = last_known (rows_of t rows) b.parent id Master l n r (sym a ∙ inner_is) in
      omega arith

  pub inner_fits : {n : ℕ} {r : Row} → c ≡ Some (n, r) → rows < 2 ^ 64 → n + 1 < 2 ^ 64
  inner_fits a u = let k = inner_known a in omega arith

pub inner_readable : {s t : List ℕ} {rows n : ℕ} {inner : Below} → Filled s t rows → BelowIs t rows n inner
    → Readable s t inner
inner_readable {t = t} {rows = rows} {inner = inner} h m =
    readable (record { filled = h; below = subst (λ (x : ℕ). BelowIs t rows x inner) (sym m.master) m })

-- What is built of the rows below it.
pub inner_fields : {A : Type 0} (values : ℕ → List Row → A) (t : List ℕ) (rows n : ℕ) {v : A} {inner : Below}
    → BelowIs t rows (n + 1) inner → v ≡ values inner.parent (rows_in t inner)
    → v ≡ values (suc n) (subtree (rows_of t rows) (suc n))
inner_fields values t rows n {v} {inner} m q =
    let k : n + 1 ≡ suc n = omega arith in
    q
    ∙ ap (λ (y : ℕ). values y (rows_in t inner)) m.master
    ∙ ap (values (n + 1)) m.are
    ∙ ap (λ (y : ℕ). values y (subtree (rows_of t rows) y)) k
