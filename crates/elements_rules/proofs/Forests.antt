-- Elements put together: their bytes, their number and their rows. Assumes nothing.
use Prim.Native.Nat.{ℕ, suc, ◌+◌}
use mathlib.Core.Path.{◌≡◌, refl, sym, ap}
use mathlib.Core.List.{[], ◌∷◌, ◌++◌, append-nil, append_assoc}
use native.Mathlib.Nat.{zero-add, add-zero}
use native.Mathlib.Omega.{arith}
use lib.ListN.{length, length-append}
use Rattle.elements_rules.specs.Forest.{Element, Forest, none, node, whole, span, count, join}
use Rattle.elements_rules.specs.Reading.{Outcome, done, refused, prepend}
use Rattle.elements_rules.specs.Rows.{row_of, rows}

pub join_none : (f : Forest) → join f none ≡ f
unfolding join
join_none none = refl
join_none (node e kids rest) = ap (node e kids) (join_none rest)

pub join_join : (f g k : Forest) → join (join f g) k ≡ join f (join g k)
unfolding join
join_join none g k = refl
join_join (node e kids rest) g k = ap (node e kids) (join_join rest g k)

pub span_join : (f g : Forest) → span (join f g) ≡ span f + span g
unfolding join span
span_join none g = sym (zero-add (span g))
span_join (node e kids rest) g = let i = span_join rest g in omega arith

pub count_join : (f g : Forest) → count (join f g) ≡ count f + count g
unfolding join count
count_join none g = sym (zero-add (count g))
count_join (node e kids rest) g = let i = count_join rest g in omega arith

pub rows_join : (parent depth at n : ℕ) (f g : Forest)
    → rows parent depth at n (join f g)
    ≡ rows parent depth at n f ++ rows parent depth (at + span f) (n + count f) g
unfolding join span count rows
rows_join parent depth at n none g = rw (add-zero at, add-zero n)
rows_join parent depth at n (node e kids rest) g =
    let a : at + whole e + span rest ≡ at + (whole e + span rest) = omega arith in
    let c : n + 1 + count kids + count rest ≡ n + suc (count kids + count rest) = omega arith in
    rw (rows_join parent depth (at + whole e) (n + 1 + count kids) rest g, a, c) (simp append_assoc)

pub length_rows : (parent depth at n : ℕ) (f : Forest) → length (rows parent depth at n f) ≡ count f
unfolding rows count
length_rows parent depth at n none = refl
length_rows parent depth at n (node e kids rest) =
    simp (
      length-append,
      length_rows (n + 1) (depth + 1) (at + e.header.length) (n + 1) kids,
      length_rows parent depth (at + whole e) (n + 1 + count kids) rest,
    )

-- The rows of an element alone: its own, and then its children's.
pub rows_node : (parent depth at n : ℕ) (e : Element) (kids : Forest)
    → rows parent depth at n (node e kids none)
    ≡ (row_of e parent depth at (n + 1 + count kids) ∷ [])
    ++ rows (n + 1) (depth + 1) (at + e.header.length) (n + 1) kids
unfolding rows
rows_node parent depth at n e kids = rw (append-nil (rows (n + 1) (depth + 1) (at + e.header.length) (n + 1) kids))

-- ---- outcomes

pub prepend_none : (o : Outcome) → prepend none o ≡ o
unfolding join
prepend_none (done f) = refl
prepend_none (refused e) = refl

pub prepend_prepend : (f g : Forest) (o : Outcome) → prepend f (prepend g o) ≡ prepend (join f g) o
prepend_prepend f g (done k) = ap done (sym (join_join f g k))
prepend_prepend f g (refused e) = refl
