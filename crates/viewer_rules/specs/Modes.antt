-- The mode that a C caller names by a number (document 02, C-18), and what the calls behind the face come to in it.
use Rattle.std.specs.Prelude.{ℕ, List, Bool, true, false, cond, eqb}
use Rattle.refusals.specs.Refusals.{bad_argument}
use Rattle.refusals.specs.Reply.{Reply, refusal}
use Rattle.elements_rules.specs.Reading.{Outcome}
use Rattle.elements_rules.specs.Reading.{refused as refused_reading}
use Rattle.places_rules.specs.Whose.{asked_of}
use Rattle.owner_rules.specs.Owner.{Owned, owner_of, chain_of}
use Rattle.search_rules.specs.Part.{Search, refused, search_of}
use Rattle.open_rules.specs.Tables.{Tables, Sizes, zeroed}
use Rattle.open_rules.specs.Opening.{Opening}
use Rattle.open_rules.specs.Opening.{refused as refused_opening}
use Rattle.open_rules.specs.Promise.{open_of, tables_of}
use Rattle.std.specs.Prelude.{Option, Some, None}

-- UZ_PLAIN and UZ_LIVE of include/uzrafmed.h: 0 is old mode, 1 is live mode.
unfoldable pub chosen_mode : (mode : ℕ) → Option Bool
chosen_mode mode = cond (eqb mode 0) (Some false) (cond (eqb mode 1) (Some true) None)

-- A call in the mode that was chosen; any other number is 14.
abbrev pub in_mode : {A : Type 0} → Option Bool → (other : A) → (call : Bool → A) → A
in_mode (Some live) other call = call live
in_mode None other call = other

abbrev pub search_in : (mode : ℕ) → List ℕ → (part numbers : ℕ) → Search
search_in mode s part numbers =
    in_mode (chosen_mode mode) (refused bad_argument) (λ live. search_of live s part numbers)

abbrev pub asked_in : (mode : ℕ) → List ℕ → (start size parent x numbers : ℕ) → Outcome
asked_in mode s start size parent x numbers =
    in_mode (chosen_mode mode) (refused_reading bad_argument) (λ live. asked_of live s start size parent x numbers)

abbrev pub owner_in : (mode : ℕ) → List ℕ → (start size parent x : ℕ) → Reply Owned
owner_in mode s start size parent x =
    in_mode (chosen_mode mode) (refusal bad_argument) (λ live. owner_of live s start size parent x)

abbrev pub chain_in : (mode : ℕ) → List ℕ → (start size parent x links : ℕ) → Reply Owned
chain_in mode s start size parent x links =
    in_mode (chosen_mode mode) (refusal bad_argument) (λ live. chain_of live s start size parent x links)

abbrev pub open_in : (mode : ℕ) → List ℕ → Sizes → Opening
open_in mode s n = in_mode (chosen_mode mode) (refused_opening bad_argument) (λ live. open_of live s n)

-- The five tables after that call.
abbrev pub tables_in : (mode : ℕ) → List ℕ → Sizes → Tables
tables_in mode s n = in_mode (chosen_mode mode) (zeroed n) (λ live. tables_of live s n (open_of live s n))
