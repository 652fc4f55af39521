-- What it is for elements to stand in a recording: the relation that the theorems on an accepted read go by.
use Rattle.std.specs.Prelude.{ℕ, ◌+◌, ◌≤◌, ◌≡◌, List, Bool, length}
use Rattle.header.specs.Header.{heading}
use Rattle.kinds.specs.Kinds.{number_of, kind_under}
use Rattle.bodies_rules.specs.Bodies.{Told, body, refused, body_of}
use Rattle.bodies_rules.specs.declared.body.Body.TheVariants.{Value, Master}
use Rattle.elements_rules.specs.Reading.{element_header}
use Rattle.elements_rules.specs.Forest.{Element, Forest, none, node, whole, span}

-- A body is a value: no master, and no refusal.
abbrev pub IsValue : Told → Type 0
IsValue (body (Value v)) = Unit
IsValue (body Master) = ⊥
IsValue (refused cause) = ⊥

abbrev pub IsMaster : Element → Type 0
IsMaster e = number_of e.kind ≡ 1

-- An element stands at an address under a parent id: its header is there, in live mode with a known size, and its kind
-- is the id's. A master's children take up its payload; the body of any other is a value, and it has no children.
pub record StandsAt (live : Bool) (s : List ℕ) (parent at : ℕ) (e : Element) (kids : Forest) : Type 0 where
  pub head : element_header live s at ≡ heading e.header
  pub kind : e.kind ≡ kind_under e.header.id parent
  pub taken : IsMaster e → span kids ≡ e.header.size
  pub value : (IsMaster e → ⊥) → IsValue (body_of s (at + e.header.length) e.header.size e.kind)
  pub childless : (IsMaster e → ⊥) → kids ≡ none

-- The elements stand one after another from an address on, and each one's children behind its header.
unfoldable pub Stands : (live : Bool) → List ℕ → (parent at : ℕ) → Forest → Type 0
Stands live s parent at none = at ≤ length s
Stands live s parent at (node e kids rest) =
    StandsAt live s parent at e kids
    × Stands live s e.header.id (at + e.header.length) kids
    × Stands live s parent (at + whole e) rest
