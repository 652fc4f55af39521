-- What each read of a `Cursor` answers: the definition at the octets from its place on, with the next place.
use Rattle.std.specs.Prelude.{ℕ, ◌+◌, ◌*◌, ◌^◌, ◌≤◌, ◌<◌, List, Bool, true, false, cond, length, take, drop, leb, ltb}
use Rattle.header.specs.Vint.{Width, unmarked, zeros, width_of, bits, Vint, vint, ends, long, vint_of, big_endian}
use Rattle.header.specs.Header.{Heading, heading, refused, header_of}
use Rattle.refusals.specs.Refusals.{because}
use Rattle.refusals.specs.declared.refusal.Cause.{Cause}
use Rattle.refusals.specs.declared.refusal.Cause.TheVariants.{PastEnd}
use Rattle.header.specs.declared.cursor.Header.{Header}
use Rattle.header.specs.declared.cursor.Headed.{Headed}
use Rattle.header.specs.declared.cursor.Vint.{Vint as VintRead}
use Rattle.header.specs.declared.cursor.VintFault.{VintFault}
use Rattle.header.specs.declared.cursor.VintFault.TheVariants.{Ends, Long}
use Rattle.std.specs.Prelude.{Result, Option, Ok, Err, Some, None}
use Rattle.header.specs.declared.cursor.Cursor.{Cursor}
use Rattle.refusals.specs.declared.refusal.Refusal.{Refusal}

-- The VINT_WIDTH of what stands at a place.
abbrev pub width_at : List ℕ → ℕ → Width
width_at s at = width_of (bits (drop at s))

-- Whether there is a marker at all.
unfoldable pub marked : Width → Bool
marked unmarked = false
marked (zeros z) = true

-- How many octets a VINT of that width has, where it has at most 8.
unfoldable pub octets_of : Width → Result ℕ VintFault
octets_of unmarked = Err Ends
octets_of (zeros z) = cond (ltb z 8) (Ok (z + 1)) (Err Long)

unfoldable pub number_at : List ℕ → (at n : ℕ) → Option (ℕ × Cursor)
number_at s at n =
    cond (leb (at + n) (length s)) (Some (big_endian (take n (drop at s)), record { at = at + n })) None

unfoldable pub vint_read : ℕ → Vint → Result VintRead VintFault
vint_read at (vint n value) = Ok (record { octets = n; value = value; next = record { at = at + n } })
vint_read at ends = Err Ends
vint_read at long = Err Long

unfoldable pub vint_at : List ℕ → (at most : ℕ) → Result VintRead VintFault
vint_at s at most = vint_read at (vint_of most (drop at s))

-- The element whose header is at a place: its payload begins behind the header.
abbrev pub headed_at : ℕ → Header → Headed
headed_at at h = record { place = record { at = at }; payload = record { at = at + h.length }; header = h }

-- The cause that a fault is, where `more` is that of more octets than there may be.
abbrev pub cause_of : Cause → VintFault → Cause
cause_of more Ends = PastEnd
cause_of more Long = more

-- The place behind an element. Its bytes need not exist.
abbrev pub behind : Headed → ℕ
behind e = e.payload.at + e.header.size

unfoldable pub header_read : ℕ → Heading → Result Headed Refusal
header_read at (heading h) = Ok (headed_at at h)
header_read at (refused cause) = Err (because cause at)

unfoldable pub header_at : List ℕ → ℕ → Result Headed Refusal
header_at s at = header_read at (header_of (drop at s))

-- What a caller needs of a number of n bytes, and of a VINT, besides its value: that it fits.
abbrev pub NumberFits : ℕ → Option (ℕ × Cursor) → Type 0
NumberFits n (Some (value, next)) = value < 2 ^ (8 * n)
NumberFits n None = Unit

abbrev pub VintFits : ℕ → Result VintRead VintFault → Type 0
VintFits most (Ok v) = (v.octets ≤ most) × (v.value < 2 ^ (8 * v.octets))
VintFits most (Err fault) = Unit
