-- `open` in live mode and in old mode (document 02, C-14; C-18): the statements of the theorems.
use Rattle.std.specs.Prelude.{ℕ, ◌≡◌, List, true, false}
use Rattle.elements_rules.specs.Live.{AllKnown, NoneUnknown}
use Rattle.open_rules.specs.Tables.{Tables, sizes_of}
use Rattle.open_rules.specs.Promise.{are_allowed, OpenPromise}
use Rattle.open_rules.specs.Faults.{OpenComes}
use Rattle.std.specs.Prelude.{Result}
use Rattle.open_rules.specs.declared.parts.Parts.{Parts}
use Rattle.refusals.specs.declared.refusal.Refusal.{Refusal}

-- If no header that the call reads in old mode has an unknown size, live mode gives the equal reply and tables. With 14
-- it reads none. The headers are those that a refusal may name (`OpenHonest`). It shuts out a live mode that looks for
-- endings though every size is known.
abbrev pub EqualOpens : Type 0
EqualOpens =
    (s : List ℕ) (t : Tables) (r r' : Result (Parts × ℕ) Refusal) (t' u' : Tables)
    → (are_allowed s (sizes_of t) ≡ true → AllKnown s (OpenComes false s (sizes_of t)))
    → OpenPromise false s t r t' → OpenPromise true s t r' u' → (r' ≡ r) × (u' ≡ t')

-- So it is in a recording that has no header of unknown size at any address.
abbrev pub EqualOpensWithout : Type 0
EqualOpensWithout =
    (s : List ℕ) (t : Tables) (r r' : Result (Parts × ℕ) Refusal) (t' u' : Tables) → NoneUnknown s
    → OpenPromise false s t r t' → OpenPromise true s t r' u' → (r' ≡ r) × (u' ≡ t')
