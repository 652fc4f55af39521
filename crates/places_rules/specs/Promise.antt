-- What the public calls `payload_range`, `row_payload` and `whose_byte` promise.
use Rattle.std.specs.Prelude.{ℕ, ◌≡◌, List, Bool, length}
use Rattle.refusals.specs.Reply.{Reply, accepted, refusal}
use Rattle.bodies_rules.specs.declared.body.Range.{Range}
use Rattle.elements_rules.specs.Promise.{table_of}
use Rattle.places_rules.specs.Payload.{PayloadRange, range, refused, payload_range, bytes_of}
use Rattle.places_rules.specs.Whose.{Whose, by_header, by_payload, asked_of, whose_of}
use Rattle.places_rules.specs.declared.whose.WhoseRow.TheVariants.{Header, Payload}
use Rattle.std.specs.Prelude.{Result, Ok, Err}
use Rattle.refusals.specs.declared.refusal.Refusal.{Refusal}
use Rattle.places_rules.specs.declared.whose.WhoseRow.{WhoseRow}

-- Document 01's values for a range: its address and length; or the refusal.
abbrev pub values_of : PayloadRange → Reply Range
values_of (range at n) = accepted (record { at = at; length = n })
values_of (refused e) = refusal e

abbrev pub range_told : Result Range Refusal → Reply Range
range_told (Ok r) = accepted r
range_told (Err e) = refusal e

pub record RangePromise (s t : List ℕ) (row : ℕ) (r : Result Range Refusal) : Type 0 where
  pub reply : range_told r ≡ values_of (payload_range s t row)

-- The octets of the part that is handed back.
pub record PayloadPromise (s t : List ℕ) (row : ℕ) (part : List ℕ) : Type 0 where
  pub reply : part ≡ bytes_of s (payload_range s t row)

-- Document 01's values for each case of what `whose_byte` answers.
abbrev pub whose_told : Result WhoseRow Refusal → Reply Whose
whose_told (Ok (Header row rows)) = accepted (by_header row rows)
whose_told (Ok (Payload row rows)) = accepted (by_payload row rows)
whose_told (Err e) = refusal e

pub record WhosePromise
    (live : Bool) (s : List ℕ) (start size parent x : ℕ) (t : List ℕ) (r : Result WhoseRow Refusal) (t' : List ℕ) : Type 0 where
  pub reply : whose_told r ≡ whose_of start x (asked_of live s start size parent x (length t))
  pub table : t' ≡ table_of start (length t) (asked_of live s start size parent x (length t))
