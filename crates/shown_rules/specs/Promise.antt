-- What the public calls `text_range` and `shown_text` promise.
use Rattle.std.specs.Prelude.{ℕ, ◌≡◌, List}
use Rattle.places_rules.specs.Payload.{bytes_of}
use Rattle.places_rules.specs.Promise.{values_of, range_told}
use Rattle.shown_rules.specs.Shown.{text_range}
use Rattle.std.specs.Prelude.{Result}
use Rattle.bodies_rules.specs.declared.body.Range.{Range}
use Rattle.refusals.specs.declared.refusal.Refusal.{Refusal}

pub record TextPromise (s t : List ℕ) (row : ℕ) (r : Result Range Refusal) : Type 0 where
  pub reply : range_told r ≡ values_of (text_range s t row)

-- The octets of the part that is handed back.
pub record ShownPromise (s t : List ℕ) (row : ℕ) (part : List ℕ) : Type 0 where
  pub reply : part ≡ bytes_of s (text_range s t row)
