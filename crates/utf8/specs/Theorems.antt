-- What is proved of the definitions beside the contracts: the statements of the theorems.
use Rattle.std.specs.Prelude.{ℕ, ◌≡◌, List, Bool, true, ◌↔◌}
use Rattle.utf8.specs.Utf8.{utf8}
use Rattle.utf8.specs.Grammar.{Utf8Octets}
use Rattle.utf8.specs.Promise.{Utf8Promise}

-- `utf8` says true of just the octets that the grammar derives.
abbrev pub Decides : Type 0
Decides = (s : List ℕ) → (utf8 s ≡ true) ↔ Utf8Octets s

-- Any two answers that the promise permits to one question are equal.
abbrev pub OneReply : Type 0
OneReply = (s : List ℕ) (r r' : Bool) → Utf8Promise s r → Utf8Promise s r' → r ≡ r'
