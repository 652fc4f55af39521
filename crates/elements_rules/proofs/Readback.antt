-- The rows that a table holds are the rows that were written into it. Assumes nothing.
use Prim.Native.Nat.{ℕ, ◌-◌, ◌*◌, ◌/◌, ◌≤◌}
use mathlib.Core.Path.{◌≡◌, refl, sym, ap, ◌∙◌}
use mathlib.Core.List.{List, [], ◌∷◌, ◌++◌}
use mathlib.Core.Bool.{Bool}
use native.Mathlib.Omega.{arith}
use lib.ListN.{length, length-append, length-replicate}
use Rattle.refusals.specs.Reply.{accepted}
use Rattle.elements_rules.specs.Forest.{Forest, count}
use Rattle.elements_rules.specs.Reading.{Outcome, done, refused}
use Rattle.elements_rules.specs.Rows.{rows, width, flat, flatten, first_row, rows_of}
use Rattle.elements_rules.specs.Promise.{read_of, reply_of, zeros, table_of, ReadPromise}
use Rattle.elements_rules.specs.declared.row.Row.{Row}
use Rattle.elements_rules.proofs.Forests.{length_rows}
use Rattle.elements_rules.proofs.Tables.{length_flatten}
use Rattle.elements_rules.proofs.Fits.{rows_fit}
use Rattle.std.proofs.Common.{Ok}

pub rows_back : (rs : List Row) (rest : List ℕ) → rows_of (flatten rs ++ rest) (length rs) ≡ rs
unfolding rows_of flatten flat first_row
rows_back [] rest = refl
rows_back (r ∷ rs) rest = ap (λ (x : List Row). r ∷ x) (rows_back rs rest)

-- The table of a forest that was read.
pub table_is : (start numbers : ℕ) (f : Forest) → table_of start numbers (done f)
    ≡ flatten (rows 0 0 start 0 f) ++ zeros (numbers - count f * width)
unfolding table_of
table_is start numbers f = refl

-- What an accepted promise says: a forest was read, and the table holds its rows.
pub record Accepted (live : Bool) (s : List ℕ) (start size parent numbers n : ℕ) (t' : List ℕ) : Type 0 where
  pub forest : Forest
  pub outcome : read_of live s start size parent numbers ≡ done forest
  pub number : n ≡ count forest
  pub rows_are : rows_of t' n ≡ rows 0 0 start 0 forest
  pub fits : n ≤ numbers / width
  pub as_long : length t' ≡ numbers

told_rows : (n : ℕ) (o : Outcome) → accepted n ≡ reply_of o → (f : Forest) × (o ≡ done f) × (n ≡ count f)
told_rows n (done f) q = (f, refl, cc)
told_rows n (refused e) q = let z : ◌≡◌ {A = ℕ} 0 1 = cc in absurd (omega arith)

module _ (live : Bool) (s : List ℕ) (start size parent : ℕ) (t : List ℕ) (n : ℕ) (t' : List ℕ) where
  pub table_rows : (f : Forest) → n ≡ count f → t' ≡ table_of start (length t) (done f)
      → rows_of t' n ≡ rows 0 0 start 0 f
  unfolding table_of
  table_rows f k w =
      let e : n ≡ length (rows 0 0 start 0 f) = k ∙ sym (length_rows 0 0 start 0 f) in
      rw (w, e) (rows_back (rows 0 0 start 0 f) (zeros (length t - count f * width)))

  table_length : (f : Forest) → count f ≤ length t / width → t' ≡ table_of start (length t) (done f)
      → length t' ≡ length t
  unfolding table_of
  table_length f l w =
      let c = length_rows 0 0 start 0 f in
      let m = length_flatten (rows 0 0 start 0 f) in
      let a = length-append (flatten (rows 0 0 start 0 f)) (zeros (length t - count f * width)) in
      let z : length (zeros (length t - count f * width)) ≡ length t - count f * width
      = length-replicate (length t - count f * width) 0 in
      ap length w ∙ (omega arith)

  pub accepted_read : ReadPromise live s start size parent t (Ok n) t'
      → Accepted live s start size parent (length t) n t'
  accepted_read p =
      let (f, o, k) = told_rows n (read_of live s start size parent (length t)) p.reply in
      let w = p.table ∙ ap (table_of start (length t)) o in
      let l = rows_fit live s start size parent (length t) f o in
      record {
        forest = f;
        outcome = o;
        number = k;
        rows_are = table_rows f k w;
        fits = omega arith;
        as_long = table_length f l w;
      }
