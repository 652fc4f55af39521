-- What a read of a body answers: the definition, as the code tells it, with the next place.
use Rattle.std.specs.Prelude.{ℕ, ◌+◌, List, Option, Some, None, cond, length, leb}
use Rattle.kinds.specs.declared.kind.Kind.{Kind}
use Rattle.bodies_rules.specs.Bodies.{Told, body, refused, body_of}
use Rattle.bodies_rules.specs.declared.body.Body.TheVariants.{Value, Master}
use Rattle.std.specs.Prelude.{Result, Ok, Err}
use Rattle.bodies_rules.specs.declared.body.Body.{Body}
use Rattle.refusals.specs.declared.refusal.Cause.{Cause}
use Rattle.header.specs.declared.cursor.Cursor.{Cursor}

-- The answer for a body of n octets at a place: the next place is behind it, but a master's payload is not read yet.
abbrev pub read_of : (at n : ℕ) → Told → Result (Body × Cursor) Cause
read_of at n (body (Value v)) = Ok (Value v, record { at = at + n })
read_of at n (body Master) = Ok (Master, record { at = at })
read_of at n (refused cause) = Err cause

unfoldable pub body_read : Kind → List ℕ → (at n : ℕ) → Result (Body × Cursor) Cause
body_read kind s at n = read_of at n (body_of s at n kind)

-- The place behind n octets, where the recording has them.
abbrev pub end_of : List ℕ → (at n : ℕ) → Option Cursor
end_of s at n = cond (leb (at + n) (length s)) (Some (record { at = at + n })) None
