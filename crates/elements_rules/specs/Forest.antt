-- Elements one after another, each with its children: what a read is read into. It holds no address and no row number.
use Rattle.std.specs.Prelude.{ℕ, suc, ◌+◌, max}
use Rattle.header.specs.declared.cursor.Header.{Header}
use Rattle.kinds.specs.declared.kind.Kind.{Kind}

-- An element: its header, and its kind under its parent.
pub record Element : Type 0 where
  pub header : Header
  pub kind : Kind

-- How many bytes the element takes: header and payload.
abbrev pub whole : Element → ℕ
whole e = e.header.length + e.header.size

-- Nothing, or an element with its children and what follows it.
pub data Forest : Type 0 where
  none : Forest
  node : Element → Forest → Forest → Forest

-- How many bytes they take together.
unfoldable pub span : Forest → ℕ
span none = 0
span (node e kids rest) = whole e + span rest

-- How many elements there are.
unfoldable pub count : Forest → ℕ
count none = 0
count (node e kids rest) = suc (count kids + count rest)

-- How many depths they have: none without an element, one without a child.
unfoldable pub deep : Forest → ℕ
deep none = 0
deep (node e kids rest) = max (suc (deep kids)) (deep rest)

-- Elements, and then others.
unfoldable pub join : Forest → Forest → Forest
join none g = g
join (node e kids rest) g = node e kids (join rest g)
