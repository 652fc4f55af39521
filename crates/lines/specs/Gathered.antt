-- What is gathered for standard output.
use Rattle.std.specs.Prelude.{ℕ, ◌≡◌, ◌+◌, ◌/◌, ◌%◌, true, [], ◌∷◌, ◌≤◌, List, ◌++◌, length, take, Option, Some, None, Result, Ok, Err, IfSome, ◌⊎◌}
use Rattle.std.specs.Fmt.{digit_glyph}
use Rattle.std.specs.List.{flat_map}
use Rattle.std.specs.declared.io.Error.{Error}
use Rattle.lines.specs.declared.out.Out.TheInside.{Inside}

-- The bytes that the room holds, or nothing once a write has failed.
abbrev pub held_bytes : List ℕ → Result ℕ Error → Option (List ℕ)
held_bytes room (Ok held) = Some (take held room)
held_bytes room (Err failure) = None

abbrev pub gathered : Inside → Option (List ℕ)
gathered out = held_bytes out.room out.held

-- Bytes that find room stand behind those that were gathered.
abbrev pub Gathers : Option (List ℕ) → List ℕ → Option (List ℕ) → Type 0
Gathers old bytes new = IfSome old (λ held. length held + length bytes ≤ 65536 → new ≡ Some (held ++ bytes))

-- What is held is an end of what was gathered and put, and what stands before it was written away; or a write failed.
abbrev pub Keeps : Option (List ℕ) → List ℕ → Option (List ℕ) → Type 0
Keeps None bytes new = new ≡ None
Keeps (Some held) bytes new = IfSome new (λ rest. (away : List ℕ) × (away ++ rest ≡ held ++ bytes))

-- Both at once.
abbrev pub Takes : Option (List ℕ) → List ℕ → Option (List ℕ) → Type 0
Takes old bytes new = Gathers old bytes new × Keeps old bytes new

-- The same, unless a write fails.
abbrev pub TakesOrFails : Option (List ℕ) → List ℕ → Option (List ℕ) → Type 0
TakesOrFails old bytes new = new ≡ None ⊎ Takes old bytes new

-- Once a write has failed, nothing more is gathered.
abbrev pub StaysFailed : Option (List ℕ) → Option (List ℕ) → Type 0
StaysFailed old new = old ≡ None → new ≡ None

-- A byte in two hexadecimal digits.
abbrev pub two_digits : ℕ → List ℕ
two_digits byte = digit_glyph true (byte / 16) ∷ digit_glyph true (byte % 16) ∷ []

-- Bytes in hexadecimal digits, or `-` for none.
abbrev pub in_hex : List ℕ → List ℕ
in_hex [] = 45 ∷ []
in_hex (byte ∷ bytes) = flat_map two_digits (byte ∷ bytes)
