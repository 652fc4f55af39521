-- Which row holds a byte: a header is its row's own, and so is a leaf's payload; a master's payload is its children's.
use Rattle.std.specs.Prelude.{ℕ, ◌+◌, List, [], ◌∷◌, Bool, cond, ◌&&◌, not, ltb, leb, eqb}
use Rattle.elements_rules.specs.declared.row.Row.{Row}

-- Whether an address is one of `length` from `from` on.
abbrev pub within : (from length x : ℕ) → Bool
within from length x = leb from x && ltb x (from + length)

abbrev pub in_header : Row → ℕ → Bool
in_header r x = within r.address r.header x

-- A leaf row is one whose kind is not master.
abbrev pub is_leaf : Row → Bool
is_leaf r = not (eqb r.kind 1)

abbrev pub in_leaf : Row → ℕ → Bool
in_leaf r x = is_leaf r && within (r.address + r.header) r.payload x

-- 1 for yes, 0 for no.
abbrev pub one : Bool → ℕ
one b = cond b 1 0

-- How many headers of rows and payloads of leaf rows hold an address.
unfoldable pub holders : List Row → ℕ → ℕ
holders [] x = 0
holders (r ∷ rs) x = one (in_header r x) + one (in_leaf r x) + holders rs x
