-- A row's payload as a part of the recording (document 01, Element table; 14 of Numbers that bound a call).
use Rattle.std.specs.Prelude.{ℕ, ◌+◌, ◌/◌, List, [], Option, Some, None, cond, ◌&&◌, length, take, drop, ltb, leb}
use Rattle.refusals.specs.Refusals.{bad_argument}
use Rattle.refusals.specs.declared.refusal.Refusal.{Refusal}
use Rattle.bodies_rules.specs.declared.body.Range.{Range}
use Rattle.elements_rules.specs.declared.row.Row.{Row}
use Rattle.elements_rules.specs.Rows.{width, row_at}
use Rattle.elements_rules.specs.Promise.{allowed}

-- The address of the payload's first byte and how many there are, or a refusal.
pub data PayloadRange : Type 0 where
  range : (at length : ℕ) → PayloadRange
  refused : Refusal → PayloadRange

-- The range of row k, which is in the table and whose range is in the recording; else 14.
unfoldable pub payload_range : List ℕ → List ℕ → ℕ → PayloadRange
payload_range s t k =
    let r = row_at t k in
    cond
    (allowed s 0 (length t)
    && (ltb k (length t / width) && leb (r.address + r.header + r.payload) (length s)))
    (range (r.address + r.header) r.payload)
    (refused bad_argument)

-- The part of the recording; nothing on a refusal.
abbrev pub bytes_of : List ℕ → PayloadRange → List ℕ
bytes_of s (range at n) = take n (drop at s)
bytes_of s (refused e) = []

-- The range of a row alone, where it is in the recording.
unfoldable pub range_in : List ℕ → Row → Option Range
range_in s r =
    cond (leb (r.address + r.header + r.payload) (length s))
    (Some (record { at = r.address + r.header; length = r.payload })) None
