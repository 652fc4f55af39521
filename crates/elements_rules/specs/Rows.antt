-- The rows of what was read, in preorder, and the numbers of the table that hold them (document 01, Element table;
-- document 02, C-15).
use Rattle.std.specs.Prelude.{ℕ, zero, suc, ◌+◌, ◌*◌, List, [], ◌∷◌, ◌++◌, get_or, take, drop}
use Rattle.kinds.specs.Kinds.{number_of}
use Rattle.elements_rules.specs.Forest.{Element, Forest, none, node, whole, count}
use Rattle.elements_rules.specs.declared.row.Row.{Row}

-- The row of an element at an address: under row number plus 1 of its parent (0 for none), at a depth; `after` is the
-- first row behind it that is no descendant of it.
abbrev pub row_of : Element → (parent depth at after : ℕ) → Row
row_of e parent depth at after =
    record {
      id = e.header.id;
      parent = parent;
      address = at;
      header = e.header.length;
      payload = e.header.size;
      kind = number_of e.kind;
      depth = depth;
      after = after;
    }

-- The rows of elements that begin at an address, the first of them row n.
unfoldable pub rows : (parent depth at n : ℕ) → Forest → List Row
rows parent depth at n none = []
rows parent depth at n (node e kids rest) =
    row_of e parent depth at (n + 1 + count kids)
    ∷ (rows (n + 1) (depth + 1) (at + e.header.length) (n + 1) kids
    ++ rows parent depth (at + whole e) (n + 1 + count kids) rest)

-- The rows of a payload that begins at an address: its own elements have no parent and depth 0, and the first is row 0.
abbrev pub rows_at : ℕ → Forest → List Row
rows_at at f = rows 0 0 at 0 f

-- How many numbers a row has.
abbrev pub width : ℕ
width = 8

-- Which of a row's numbers is `after`, counted from 0.
abbrev pub after_column : ℕ
after_column = 7

-- A row's numbers, in their order.
unfoldable pub flat : Row → List ℕ
flat r = r.id ∷ r.parent ∷ r.address ∷ r.header ∷ r.payload ∷ r.kind ∷ r.depth ∷ r.after ∷ []

unfoldable pub flatten : List Row → List ℕ
flatten [] = []
flatten (r ∷ rs) = flat r ++ flatten rs

-- The row that the first numbers of a table are.
unfoldable pub first_row : List ℕ → Row
first_row t =
    record {
      id = get_or t 0 0;
      parent = get_or t 1 0;
      address = get_or t 2 0;
      header = get_or t 3 0;
      payload = get_or t 4 0;
      kind = get_or t 5 0;
      depth = get_or t 6 0;
      after = get_or t after_column 0;
    }

-- Row k of a table.
unfoldable pub row_at : List ℕ → ℕ → Row
row_at t k = first_row (drop (k * width) t)

-- The first n rows of a table.
unfoldable pub rows_of : List ℕ → ℕ → List Row
rows_of t zero = []
rows_of t (suc n) = first_row t ∷ rows_of (drop width t) n

-- The row of a place in a list; a row of zeros past its end.
unfoldable pub nth : List Row → ℕ → Row
nth [] k = record { id = 0; parent = 0; address = 0; header = 0; payload = 0; kind = 0; depth = 0; after = 0 }
nth (r ∷ rs) zero = r
nth (r ∷ rs) (suc k) = nth rs k

-- The octets of a row's payload.
abbrev pub payload_of : List ℕ → Row → List ℕ
payload_of s r = take r.payload (drop (r.address + r.header) s)
