-- The search in live mode and in old mode (document 02, C-18): the statements of theorems, each with a wrong reader
-- that it shuts out.
use Rattle.std.specs.Prelude.{ℕ, ◌≡◌, List, true, false, length}
use Rattle.elements_rules.specs.Promise.{allowed}
use Rattle.elements_rules.specs.Live.{AllKnown, NoneUnknown}
use Rattle.search_rules.specs.Part.{parent_of, PartPromise}
use Rattle.search_rules.specs.Faults.{SearchComes}
use Rattle.std.specs.Prelude.{Some}
use Rattle.std.specs.Prelude.{Result, Option}
use Rattle.search_rules.specs.declared.part.Part.{Part}
use Rattle.refusals.specs.declared.refusal.Refusal.{Refusal}

-- If no header that the search reads in old mode has an unknown size, live mode gives the equal reply and table. With
-- 14 it reads none. The headers are those that a refusal may name (`SearchHonest`), sought addresses among them: a seek
-- position may point into a payload. It shuts out a live mode that looks for endings though every size is known.
abbrev pub EqualParts : Type 0
EqualParts =
    (s : List ℕ) (part : ℕ) (t : List ℕ) (r r' : Result (Option Part × ℕ) Refusal) (t' u' : List ℕ)
    → (allowed s 0 (length t) ≡ true → (parent : ℕ) → parent_of part ≡ Some parent
    → AllKnown s (SearchComes false s part (length t)))
    → PartPromise false s part t r t' → PartPromise true s part t r' u' → (r' ≡ r) × (u' ≡ t')

-- So it is in a recording that has no header of unknown size at any address.
abbrev pub EqualWithout : Type 0
EqualWithout =
    (s : List ℕ) (part : ℕ) (t : List ℕ) (r r' : Result (Option Part × ℕ) Refusal) (t' u' : List ℕ) → NoneUnknown s
    → PartPromise false s part t r t' → PartPromise true s part t r' u' → (r' ≡ r) × (u' ≡ t')
