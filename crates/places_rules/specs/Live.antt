-- Live mode beside old mode in the address question (document 02, C-18): the statements of theorems, each with a wrong
-- reader that it shuts out.
use Rattle.std.specs.Prelude.{ℕ, ◌/◌, ◌≡◌, List, ◌⊎◌, true, false, length}
use Rattle.refusals.specs.Refusals.{unknown_size}
use Rattle.sizes.specs.Unknown.{unknown}
use Rattle.elements_rules.specs.Rows.{width, rows_of}
use Rattle.elements_rules.specs.Holds.{within}
use Rattle.elements_rules.specs.Theorems.{Each}
use Rattle.elements_rules.specs.Promise.{keeping, allowed}
use Rattle.elements_rules.specs.Faults.{Comes}
use Rattle.elements_rules.specs.Live.{AllKnown, header_of_row}
use Rattle.places_rules.specs.Promise.{WhosePromise}
use Rattle.places_rules.specs.declared.whose.WhoseRow.TheVariants.{Header, Payload}
use Rattle.std.specs.Prelude.{Result, Ok, Err}
use Rattle.refusals.specs.declared.refusal.Refusal.{Refusal}
use Rattle.places_rules.specs.declared.whose.WhoseRow.{WhoseRow}

-- In live mode the question is 17, or it has the same reply and the same table. It shuts out a live mode that tells an
-- element of unknown size as the owner of all bytes behind its header.
abbrev pub LiveWhose : Type 0
LiveWhose =
    (s : List ℕ) (start size parent x : ℕ) (t : List ℕ) (r r' : Result WhoseRow Refusal) (t' u' : List ℕ)
    → WhosePromise false s start size parent x t r t' → WhosePromise true s start size parent x t r' u'
    → ((a : ℕ) × (r' ≡ Err (unknown_size a))) ⊎ ((r' ≡ r) × (u' ≡ t'))

-- If no header that the call reads in old mode has an unknown size, live mode gives the equal reply and table; a call
-- that ends in 14, or in 15 for the address, reads none. It shuts out a live mode that gives 17 for an unknown size
-- outside the payload that the caller named.
abbrev pub EqualWhose : Type 0
EqualWhose =
    (s : List ℕ) (start size parent x : ℕ) (t : List ℕ) (r r' : Result WhoseRow Refusal) (t' u' : List ℕ)
    → (allowed s start (length t) ≡ true → within start size x ≡ true
    → AllKnown s (Comes s (keeping false) (length t / width) 0 parent start size 0))
    → WhosePromise false s start size parent x t r t' → WhosePromise true s start size parent x t r' u'
    → (r' ≡ r) × (u' ≡ t')

-- Where live mode names a row, no row of the table has an unknown size. It shuts out a question that is asked in live
-- mode and reads in old mode.
abbrev pub WhoseRowsKnown : Type 0
WhoseRowsKnown =
    (s : List ℕ) (start size parent x : ℕ) (t : List ℕ) (r : Result WhoseRow Refusal) (t' : List ℕ) (row rows : ℕ)
    → WhosePromise true s start size parent x t r t' → (r ≡ Ok (Header row rows)) ⊎ (r ≡ Ok (Payload row rows))
    → Each (λ r. unknown (header_of_row r) ≡ false) (rows_of t' rows)
