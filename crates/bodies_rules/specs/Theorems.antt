-- What is proved of the definitions beside the contracts: the statements of the theorems.
use Rattle.std.specs.Prelude.{ℕ, ◌≡◌, List}
use Rattle.refusals.specs.Theorems.{Listed}
use Rattle.refusals.specs.declared.refusal.Refusal.{Refusal}
use Rattle.bodies_rules.specs.Promise.{BodyPromise}
use Rattle.std.specs.Prelude.{Result, Err}
use Rattle.bodies_rules.specs.declared.body.Body.{Body}

-- Any two replies that the promise permits to one question are equal (document 01, Strength of the promises). All NaNs
-- are one value here, so a NaN's bits are not promised.
abbrev pub OneReply : Type 0
OneReply =
    (s : List ℕ) (id parent at size address : ℕ) (r r' : Result Body Refusal)
    → BodyPromise s id parent at size address r → BodyPromise s id parent at size address r' → r ≡ r'

-- A refusal that the promise permits is one of document 01's list.
abbrev pub RefusesListed : Type 0
RefusesListed =
    (s : List ℕ) (id parent at size address : ℕ) (e : Refusal)
    → BodyPromise s id parent at size address (Err e) → Listed e
