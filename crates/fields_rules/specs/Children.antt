-- The direct children of a master among the rows that were read (document 01, Element table and Records).
use Rattle.std.specs.Prelude.{ℕ, zero, suc, ◌+◌, ◌*◌, ◌-◌, List, [], ◌∷◌, Bool, cond, ◌&&◌, drop, ltb, eqb}
use Rattle.kinds.specs.Kinds.{number_of}
use Rattle.kinds.specs.declared.kind.Kind.{Kind}
use Rattle.elements_rules.specs.Rows.{width, rows_of, nth}
use Rattle.elements_rules.specs.declared.row.Row.{Row}
use Rattle.fields_rules.specs.declared.child.Below.{Below}
use Rattle.std.specs.Prelude.{Option, Some, None}

-- The rows that are deeper, up to the first that is not.
unfoldable pub deeper : ℕ → List Row → List Row
deeper depth [] = []
deeper depth (r ∷ rs) = cond (ltb depth r.depth) (r ∷ deeper depth rs) []

-- The rows below a master, which is told as in a row's parent: row number plus 1, or 0 for the payload that was read.
-- In preorder they follow the master's row while they are deeper than it.
unfoldable pub subtree : List Row → ℕ → List Row
subtree rs zero = rs
subtree rs (suc n) = deeper (nth rs n).depth (drop (suc n) rs)

-- Whether a row is a direct child of that master, of this id and kind.
unfoldable pub fits : (parent id : ℕ) → Kind → Row → Bool
fits parent id kind r = eqb r.parent parent && (eqb r.id id && eqb r.kind (number_of kind))

-- The children among rows that are counted from row n on, in order.
unfoldable pub children_from : (n parent id : ℕ) → Kind → List Row → List (Option (ℕ × Row))
children_from n parent id kind [] = []
children_from n parent id kind (r ∷ rs) =
    cond (fits parent id kind r) (Some (n, r) ∷ children_from (n + 1) parent id kind rs)
    (children_from (n + 1) parent id kind rs)

-- The direct children of this id and kind, among the rows below the master: the first of those is row `parent`.
abbrev pub children : (parent id : ℕ) → Kind → List Row → List (Option (ℕ × Row))
children parent id kind below = children_from parent parent id kind below

-- The last of them, or c where there is none.
unfoldable pub last_from : Option (ℕ × Row) → List (Option (ℕ × Row)) → Option (ℕ × Row)
last_from c [] = c
last_from c (d ∷ ds) = last_from d ds

abbrev pub last_of : List (Option (ℕ × Row)) → Option (ℕ × Row)
last_of cs = last_from None cs

-- The k-th of them, counted from 0.
unfoldable pub nth_of : ℕ → List (Option (ℕ × Row)) → Option (ℕ × Row)
nth_of k [] = None
nth_of zero (c ∷ cs) = c
nth_of (suc k) (c ∷ cs) = nth_of k cs

-- The rows of a table that `Below` names.
abbrev pub rows_in : List ℕ → Below → List Row
rows_in t b = rows_of (drop (b.parent * width) t) (b.end - b.parent)
