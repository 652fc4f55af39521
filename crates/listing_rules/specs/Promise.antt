-- What the public call `listing` promises.
use Rattle.std.specs.Prelude.{ℕ, ◌≤◌, ◌≡◌, List, Bool, length}
use Rattle.pages.specs.Page.{written}
use Rattle.listing_rules.specs.Listing.{listing_of}

-- It answers how long the listing is, and the page begins with it, whole; the bytes behind it stay as they were.
pub record ListingPromise (live : Bool) (s page : List ℕ) (r : ℕ) (page' : List ℕ) : Type 0 where
  pub reply : r ≡ length (listing_of live s)
  pub text : page' ≡ written page 0 (listing_of live s)
  pub fits : r ≤ length page'
  pub long : length page' ≡ length page
