-- What is proved of unknown sizes: the statements of the theorems, with cases.
use Rattle.std.specs.Prelude.{ℕ, ◌≡◌, List, [], ◌∷◌, Bool, true, false, take, drop, replicate}
use Rattle.header.specs.Header.{Heading, heading, refused, header_of}
use Rattle.header.specs.Theorems.{Octets}
use Rattle.header.specs.declared.cursor.Header.{Header}
use Rattle.sizes.specs.Unknown.{id_octets, size_octets, unknown, ones_of}

-- A size that was read is unknown exactly if its octets are `ones_of` its width. It shuts out a reader that takes every
-- 127 as unknown, and one that knows one width alone.
abbrev pub UnknownOctets : Type 0
UnknownOctets =
    (s : List ℕ) → Octets s → (h : Header) → header_of s ≡ heading h
    → (unknown h ≡ true → take (size_octets h) (drop (id_octets h.id) s) ≡ ones_of (size_octets h))
    × (take (size_octets h) (drop (id_octets h.id) s) ≡ ones_of (size_octets h) → unknown h ≡ true)

-- Whether a header with an unknown size is at the head of some octets.
abbrev pub unknown_in : Heading → Bool
unknown_in (heading h) = unknown h
unknown_in (refused cause) = false

-- `EC FF` is unknown, `EC 40 7F` is 127; a Segment's size may have any width.
abbrev pub UnknownCases : Type 0
UnknownCases =
    (unknown_in (header_of (0xEC ∷ 0xFF ∷ [])) ≡ true)
    × (unknown_in (header_of (0xEC ∷ 0x40 ∷ 0x7F ∷ [])) ≡ false)
    × (unknown_in (header_of (0x4D ∷ 0xBB ∷ 0x7F ∷ 0xFF ∷ [])) ≡ true)
    × (unknown_in (header_of (0x4D ∷ 0xBB ∷ 0x7F ∷ 0xFE ∷ [])) ≡ false)
    × (unknown_in (header_of (0x18 ∷ 0x53 ∷ 0x80 ∷ 0x67 ∷ 0x01 ∷ replicate 7 0xFF)) ≡ true)
