-- The lines of rows one after another. Assumes nothing.
use Prim.Native.Nat.{ℕ, zero, suc, ◌+◌, ◌*◌, ◌≤◌, ◌<◌}
use mathlib.Core.Path.{◌≡◌, sym, ap, ◌∙◌}
use mathlib.Core.List.{List, ◌++◌, append_assoc, append-nil}
use native.Mathlib.Omega.{arith}
use native.Mathlib.Numerals.{add-one}
use lib.ListN.{length, drop}
use lib.Seq.{drop-drop}
use Rattle.elements_rules.specs.Rows.{width, first_row, row_at, rows_of}
use Rattle.elements_rules.specs.declared.row.Row.{Row}
use Rattle.pages.specs.Page.{Wrote}
use Rattle.pages.proofs.Pages.{then, wrote_none}
use Rattle.rowtext.specs.Lines.{row_line, row_lines}
use Rattle.rowtext.specs.Room.{line_room}

-- One row more.
pub lines_more : (t : List ℕ) (n : ℕ) → row_lines (rows_of t (suc n)) ≡ row_lines (rows_of t n) ++ row_line (row_at t n)
unfolding rows_of row_lines row_at
lines_more t zero = append-nil (row_line (first_row t))
lines_more t (suc n) =
    let e : width + n * width ≡ suc n * width = omega arith in
    ap (λ (x : List ℕ). row_line (first_row t) ++ x)
    (lines_more (drop width t) n
    ∙ ap (λ (x : List ℕ). row_lines (rows_of (drop width t) n) ++ row_line (first_row x))
    (drop-drop (n * width) width t ∙ ap (λ (x : ℕ). drop x t) e))
    ∙ sym (append_assoc (row_line (first_row t)) (row_lines (rows_of (drop width t) n)) (row_line (row_at t (suc n))))

-- What holds while the lines of rows are written: the lines of the first n rows are there.
pub record Listed (page : List ℕ) (held : ℕ) (table : List ℕ) (rows : ℕ) (page' : List ℕ) (end n : ℕ) : Type 0 where
  pub some : n ≤ rows
  pub few : end ≤ held + n * line_room
  pub wrote : Wrote page held (row_lines (rows_of table n)) end page'

pub listed_starts : (page : List ℕ) (held : ℕ) (table : List ℕ) (rows : ℕ) → Listed page held table rows page held 0
unfolding rows_of row_lines
listed_starts page held table rows =
    record { some = omega arith; few = omega arith; wrote = wrote_none page held }

pub listed_goes_on :
    (page : List ℕ) (held : ℕ) (table : List ℕ) (rows : ℕ) (page' : List ℕ) (end n : ℕ) (row : Row) (r : ℕ)
    (page'' : List ℕ) → held + rows * line_room ≤ length page → n < rows → row ≡ row_at table n
    → Listed page held table rows page' end n → Wrote page' end (row_line row) r page'' → r ≤ end + line_room
    → Listed page held table rows page'' r (n + 1)
listed_goes_on page held table rows page' end n row r page'' room l e i w m =
    let f = i.few in
    let both = then page held (row_lines (rows_of table n)) end page' (row_line row) r page'' i.wrote w (omega arith) in
    record {
      some = omega arith;
      few = omega arith;
      wrote = rw (add-one n, lines_more table n, sym e) both;
    }

pub listed_ends :
    (page : List ℕ) (held : ℕ) (table : List ℕ) (rows : ℕ) (page' : List ℕ) (end n : ℕ) → rows ≤ n
    → Listed page held table rows page' end n
    → Wrote page held (row_lines (rows_of table rows)) end page' × (end ≤ held + rows * line_room)
listed_ends page held table rows page' end n l i =
    let m = i.some in
    let e : n ≡ rows = omega arith in
    rw (sym e) (i.wrote, i.few)
