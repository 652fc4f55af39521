-- What is proved of the listing beside the contracts: the statements of the theorems.
use Rattle.std.specs.Prelude.{ℕ, ◌≡◌, List, Bool}
use Rattle.listing_rules.specs.Promise.{ListingPromise}

-- Any two answers and pages that the promise permits to one question are equal (document 01, Strength of the
-- promises).
abbrev pub OneListing : Type 0
OneListing =
    (live : Bool) (s page : List ℕ) (r r' : ℕ) (page' page'' : List ℕ)
    → ListingPromise live s page r page' → ListingPromise live s page r' page'' → (r ≡ r') × (page' ≡ page'')
