-- A record question's reply in document 01's own terms.
use Rattle.std.specs.Prelude.{ℕ, List}
use Rattle.refusals.specs.declared.refusal.Refusal.{Refusal}
use Rattle.fields_rules.specs.Values.{FieldValue}

-- The fields in their order and how many rows there are, or a refusal.
pub data Answer : Type 0 where
  fields : List FieldValue → ℕ → Answer
  refusal : Refusal → Answer
