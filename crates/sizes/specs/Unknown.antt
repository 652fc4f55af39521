-- Unknown sizes (RFC 8794, section 6.2; document 02, C-18): a size whose data bits are all ones in its own width.
use Rattle.std.specs.Prelude.{ℕ, ◌+◌, ◌-◌, ◌*◌, ◌^◌, List, ◌∷◌, Bool, cond, ◌&&◌, ◌||◌, replicate, ltb, leb, eqb}
use Rattle.header.specs.declared.cursor.Header.{Header}

-- How many octets an id has, its marker included.
abbrev pub id_octets : ℕ → ℕ
id_octets id = cond (ltb id 0x100) 1 (cond (ltb id 0x10000) 2 (cond (ltb id 0x1000000) 3 4))

-- How many octets the size has: the rest of the header.
abbrev pub size_octets : Header → ℕ
size_octets h = h.length - id_octets h.id

-- The size is all ones in its own width. No size that was read has more than 8 octets; the test bounds the power, for a
-- header of any three numbers.
unfoldable pub unknown : Header → Bool
unknown h = leb (size_octets h) 8 && eqb (h.size + 1) (2 ^ (7 * size_octets h))

-- The two elements that may have an unknown size: Segment and Cluster (RFC 9559, section 5.1).
abbrev pub cluster_id : ℕ
cluster_id = 0x1F43B675

abbrev pub endless : (id : ℕ) → Bool
endless id = eqb id 0x18538067 || eqb id cluster_id

-- The m octets of an unknown size: FF, or 7F FF, or 3F FF FF, up to 01 and seven FF.
unfoldable pub ones_of : (m : ℕ) → List ℕ
ones_of m = (2 ^ (9 - m) - 1) ∷ replicate (m - 1) 255
