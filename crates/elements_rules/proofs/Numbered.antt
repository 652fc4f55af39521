-- A row of a table, or of a list of rows, by its number. Assumes nothing.
use Prim.Native.Nat.{ℕ, zero, suc, ◌+◌, ◌-◌, ◌*◌, ◌≤◌, ◌<◌}
use mathlib.Core.Path.{◌≡◌, refl, ap, ◌∙◌}
use mathlib.Core.List.{List, [], ◌∷◌}
use native.Mathlib.Omega.{arith}
use native.Mathlib.Nat.{sub-zero}
use lib.ListN.{length, drop}
use lib.Seq.{drop-drop}
use Rattle.elements_rules.specs.Rows.{width, first_row, row_at, rows_of, nth}
use Rattle.elements_rules.specs.Theorems.{Each}
use Rattle.elements_rules.specs.declared.row.Row.{Row}

pub length_rows_of : (t : List ℕ) (n : ℕ) → length (rows_of t n) ≡ n
unfolding rows_of
length_rows_of t zero = refl
length_rows_of t (suc n) = ap suc (length_rows_of (drop width t) n)

pub row_of_law : (t : List ℕ) (n k : ℕ) → k < n → nth (rows_of t n) k ≡ row_at t k
unfolding rows_of nth row_at
row_of_law t zero k l = absurd (omega arith)
row_of_law t (suc n) zero l = refl
row_of_law t (suc n) (suc k) l =
    let e : width + k * width ≡ suc k * width = omega arith in
    row_of_law (drop width t) n k (omega arith)
    ∙ ap first_row (drop-drop (k * width) width t)
    ∙ ap (λ (i : ℕ). first_row (drop i t)) e

pub each_at : (P : Row → Type 0) (rs : List Row) (k : ℕ) → k < length rs → Each P rs → P (nth rs k)
unfolding Each nth
each_at P [] k l a = absurd (omega arith)
each_at P (r ∷ rs) zero l a = a.0
each_at P (r ∷ rs) (suc k) l a = each_at P rs k (omega arith) a.1

-- The rows from row k on.
pub drop_rows : (t : List ℕ) (n k : ℕ) → k ≤ n → drop k (rows_of t n) ≡ rows_of (drop (k * width) t) (n - k)
unfolding rows_of
drop_rows t n zero l = rw (sub-zero n)
drop_rows t zero (suc k) l = absurd (omega arith)
drop_rows t (suc n) (suc k) l =
    let m : width + k * width ≡ suc k * width = omega arith in
    let f : n - k ≡ suc n - suc k = omega arith in
    drop_rows (drop width t) n k (omega arith)
    ∙ ap (λ (x : List ℕ). rows_of x (n - k)) (drop-drop (k * width) width t ∙ ap (λ (x : ℕ). drop x t) m)
    ∙ ap (rows_of (drop (suc k * width) t)) f
