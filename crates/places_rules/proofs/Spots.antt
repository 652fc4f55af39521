-- What of a row holds an address, and the walk over a table's rows. Assumes nothing.
use Prim.Native.Nat.{ℕ, suc, ◌+◌, ◌-◌, ◌*◌, ◌≤◌, ◌<◌}
use mathlib.Core.Path.{◌≡◌, refl, sym, ◌∙◌}
use mathlib.Core.List.{List}
use mathlib.Core.Bool.{Bool, true, false, and-false}
use native.Mathlib.Nat.{sub-zero}
use native.Mathlib.Omega.{arith}
use lib.ListN.{drop}
use lib.Seq.{drop-drop}
use lib.Dec.{ltb}
use borrow.Author.Tests.{ltb-true, ltb-false, le-leb, lt-leb, lt-ltb, le-ltb, eq-eqb, ne_eqb}
use Rattle.refusals.specs.Refusals.{outside}
use Rattle.refusals.specs.Reply.{refusal}
use Rattle.elements_rules.specs.Rows.{width, row_at, rows_of}
use Rattle.elements_rules.specs.Holds.{within}
use Rattle.elements_rules.specs.declared.row.Row.{Row}
use Rattle.places_rules.specs.Whose.{holder_in, named, whose_in}
use Rattle.places_rules.specs.declared.whose.Holder.TheVariants.{Header, Payload}
use Rattle.std.proofs.Common.{Option, Some, None}
use Rattle.places_rules.specs.declared.whose.Holder.{Holder}

-- ---- a span, tested without a sum

module _ (start size x : ℕ) where
  pub before_span : x < start → false ≡ within start size x
  before_span l = rw (lt-leb start x l)

  pub by_difference : start ≤ x → ltb (x - start) size ≡ within start size x
  by_difference l = rw (le-leb start x l) (go (ltb (x - start) size) refl)
    where
      go : (b : Bool) → ltb (x - start) size ≡ b → ltb (x - start) size ≡ ltb x (start + size)
      go true e = e ∙ sym (lt-ltb x (start + size) (omega (arith, ltb-true (x - start) size e)))
      go false e = e ∙ sym (le-ltb x (start + size) (omega (arith, ltb-false (x - start) size e)))

-- ---- one row

module _ (r : Row) (x : ℕ) where
  pub holder_before : x < r.address → None ≡ holder_in r x
  unfolding holder_in
  holder_before l =
      let m : x < r.address + r.header = omega arith in
      rw (lt-leb r.address x l, lt-leb (r.address + r.header) x m, and-false)

  module _ (l : r.address ≤ x) where
    pub holder_header : x - r.address < r.header → Some Header ≡ holder_in r x
    unfolding holder_in
    holder_header h =
        let m : x < r.address + r.header = omega arith in
        rw (le-leb r.address x l, lt-ltb x (r.address + r.header) m)

    module _ (h : r.header ≤ x - r.address) where
      behind : r.address + r.header ≤ x
      behind = omega arith

      pub holder_master : r.kind ≡ 1 → None ≡ holder_in r x
      unfolding holder_in
      holder_master k = rw (le-leb r.address x l, le-ltb x (r.address + r.header) behind, eq-eqb r.kind 1 k)

      module _ (k : r.kind ≡ 1 → ⊥) where
        pub holder_payload : x - r.address - r.header < r.payload → Some Payload ≡ holder_in r x
        unfolding holder_in
        holder_payload p =
            let m : x < r.address + r.header + r.payload = omega arith in
            rw (
              le-leb r.address x l,
              le-ltb x (r.address + r.header) behind,
              ne_eqb r.kind 1 k,
              le-leb (r.address + r.header) x behind,
              lt-ltb x (r.address + r.header + r.payload) m,
            )

        pub holder_behind : r.payload ≤ x - r.address - r.header → None ≡ holder_in r x
        unfolding holder_in
        holder_behind p =
            let m : r.address + r.header + r.payload ≤ x = omega arith in
            rw (
              le-leb r.address x l,
              le-ltb x (r.address + r.header) behind,
              ne_eqb r.kind 1 k,
              le-leb (r.address + r.header) x behind,
              le-ltb x (r.address + r.header + r.payload) m,
            )

-- ---- the walk

-- The first n rows do not hold the address: what is left is asked of the rows from row n on.
pub record Walk (t : List ℕ) (rows x n : ℕ) : Type 0 where
  pub some : n ≤ rows
  pub rest :
      whose_in (rows_of t rows) 0 rows x ≡ whose_in (rows_of (drop (n * width) t) (rows - n)) n rows x

pub walk_from : (t : List ℕ) (rows x : ℕ) → Walk t rows x 0
walk_from t rows x = record { some = omega arith; rest = rw (sub-zero rows) }

module _ (t : List ℕ) (rows x n : ℕ) (w : Walk t rows x n) where
  pub walk_ends : rows ≤ n → refusal outside ≡ whose_in (rows_of t rows) 0 rows x
  unfolding whose_in rows_of
  walk_ends l = let z : rows - n ≡ 0 = omega arith in sym (w.rest ∙ rw z)

  module _ (l : n < rows) (r : Row) (e : r ≡ row_at t n) where
    pub walk_step :
        (p : Option Holder) → p ≡ holder_in r x
        → whose_in (rows_of t rows) 0 rows x
        ≡ named p n rows (whose_in (rows_of (drop ((n + 1) * width) t) (rows - (n + 1))) (n + 1) rows x)
    unfolding whose_in rows_of row_at
    walk_step p q =
        let f : rows - n ≡ suc (rows - (n + 1)) = omega arith in
        let d : n * width + width ≡ (n + 1) * width = omega arith in
        w.rest ∙ rw (f, drop-drop width (n * width) t, d, q, e)

    pub walk_on : None ≡ holder_in r x → Walk t rows x (n + 1)
    walk_on q = record { some = omega arith; rest = walk_step None q }
