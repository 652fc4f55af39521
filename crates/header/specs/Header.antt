-- An element's header (document 01, Headers): an Element ID (RFC 8794, section 5), then an Element Data Size
-- (section 6).
use Rattle.std.specs.Prelude.{ℕ, ◌+◌, List, drop}
use Rattle.header.specs.Vint.{Vint, vint, ends, long, vint_of, vint_data}
use Rattle.refusals.specs.declared.refusal.Cause.{Cause}
use Rattle.refusals.specs.declared.refusal.Cause.TheVariants.{PastEnd, InvalidId, InvalidSize}
use Rattle.header.specs.declared.cursor.Header.{Header}

-- A header, or why there is none. Where it would stand is known to whoever reads it at a place.
pub data Heading : Type 0 where
  heading : Header → Heading
  refused : Cause → Heading

-- The size after an id of n octets: a VINT of at most 8 octets, its marker removed.
unfoldable pub sized : ℕ → ℕ → Vint → Heading
sized id n (vint m value) = heading (record { id = id; size = vint_data m value; length = n + m })
sized id n ends = refused PastEnd
sized id n long = refused InvalidSize

-- The id: a VINT of at most 4 octets, its marker kept.
unfoldable pub named : List ℕ → Vint → Heading
named s (vint n id) = sized id n (vint_of 8 (drop n s))
named s ends = refused PastEnd
named s long = refused InvalidId

-- The header at the head of the octets s.
unfoldable pub header_of : List ℕ → Heading
header_of s = named s (vint_of 4 s)
