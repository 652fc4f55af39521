-- What is proved of the definitions beside the contracts: the statements of the theorems.
use Rattle.std.specs.Prelude.{ℕ, ◌<◌, ◌≡◌, List, take, drop, get_or}
use Rattle.refusals.specs.Theorems.{Listed}
use Rattle.refusals.specs.declared.refusal.Refusal.{Refusal}
use Rattle.header.specs.Reads.{headed_at, header_at}
use Rattle.header.specs.Promise.{HeaderPromise}
use Rattle.header.specs.declared.cursor.Header.{Header}
use Rattle.header.specs.declared.cursor.Headed.{Headed}
use Rattle.std.specs.Prelude.{Result, Ok, Err}

-- Any two replies that the promise permits to one question are equal (document 01, Strength of the promises).
abbrev pub OneReply : Type 0
OneReply = (s : List ℕ) (at : ℕ) (r r' : Result Header Refusal) → HeaderPromise s at r → HeaderPromise s at r' → r ≡ r'

-- A refusal that the promise permits is one of document 01's list.
abbrev pub RefusesListed : Type 0
RefusesListed = (s : List ℕ) (at : ℕ) (e : Refusal) → HeaderPromise s at (Err e) → Listed e

-- Each number of the list is an octet, as in every recording.
abbrev pub Octets : List ℕ → Type 0
Octets s = (i : ℕ) → get_or s i 0 < 256

-- Id, size and length determine a header's octets: two accepted headers that agree in the three, at any places of
-- any two recordings, are equal octet for octet.
abbrev pub Determined : Type 0
Determined =
    (s t : List ℕ) → Octets s → Octets t → (a b : ℕ) (e f : Headed)
    → header_at s a ≡ Ok e → header_at t b ≡ Ok f → e.header ≡ f.header
    → take e.header.length (drop a s) ≡ take e.header.length (drop b t)

-- A header depends on its own octets alone: where they stand at another place, of this or another recording, the same
-- header is read. It shuts out a reader that looks at a byte behind the header, or asks where it stands.
abbrev pub HeaderMoves : Type 0
HeaderMoves =
    (s t : List ℕ) (at at' : ℕ) (h : Header) → header_at s at ≡ Ok (headed_at at h)
    → take h.length (drop at s) ≡ take h.length (drop at' t) → header_at t at' ≡ Ok (headed_at at' h)
