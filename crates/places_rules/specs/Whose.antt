-- The address question (document 01, Element table): the row whose header or leaf payload holds an address.
use Rattle.std.specs.Prelude.{ℕ, ◌+◌, List, [], ◌∷◌, Bool, cond, not}
use Rattle.refusals.specs.Refusals.{bad_argument, outside}
use Rattle.refusals.specs.Reply.{Reply, accepted, refusal}
use Rattle.elements_rules.specs.Forest.{count}
use Rattle.elements_rules.specs.Reading.{Outcome, done, refused, refuse_if}
use Rattle.elements_rules.specs.Rows.{rows_at}
use Rattle.elements_rules.specs.Holds.{within, in_header, in_leaf}
use Rattle.elements_rules.specs.Promise.{allowed, filled}
use Rattle.elements_rules.specs.declared.row.Row.{Row}
use Rattle.places_rules.specs.declared.whose.Holder.TheVariants.{Header, Payload}
use Rattle.std.specs.Prelude.{Option, Some, None}
use Rattle.places_rules.specs.declared.whose.Holder.{Holder}

-- What of a row holds the address.
unfoldable pub holder_in : Row → ℕ → Option Holder
holder_in r x = cond (in_header r x) (Some Header) (cond (in_leaf r x) (Some Payload) None)

-- The row that holds the address, by its header or by its payload, and how many rows there are.
pub data Whose : Type 0 where
  by_header : (row rows : ℕ) → Whose
  by_payload : (row rows : ℕ) → Whose

abbrev pub named : Option Holder → ℕ → ℕ → Reply Whose → Reply Whose
named (Some Header) row total others = accepted (by_header row total)
named (Some Payload) row total others = accepted (by_payload row total)
named None row total others = others

-- The first row that holds the address, the rows counted from `row` on. Where none does the answer would be 15; that
-- one always does is a theorem (`OneRowOwns`).
unfoldable pub whose_in : List Row → (row total x : ℕ) → Reply Whose
whose_in [] row total x = refusal outside
whose_in (r ∷ rs) row total x = named (holder_in r x) row total (whose_in rs (row + 1) total x)

-- 14; then 15 for an address outside the payload that the caller named; then the reading, in live mode or in old mode.
unfoldable pub asked_of : (live : Bool) → List ℕ → (start size parent x numbers : ℕ) → Outcome
asked_of live s start size parent x numbers =
    refuse_if (not (allowed s start numbers)) bad_argument
    (refuse_if (not (within start size x)) outside
    (filled live s start size parent numbers))

abbrev pub whose_of : (start x : ℕ) → Outcome → Reply Whose
whose_of start x (done f) = whose_in (rows_at start f) 0 (count f) x
whose_of start x (refused e) = refusal e
