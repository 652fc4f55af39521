-- Live mode beside old mode (document 02, C-18): the statements of theorems on payloads, each with a wrong reader that
-- it shuts out.
use Rattle.std.specs.Prelude.{ℕ, ◌/◌, ◌≡◌, List, ◌⊎◌, Bool, true, false, length, drop}
use Rattle.refusals.specs.Refusals.{unknown_size}
use Rattle.header.specs.Header.{heading, header_of}
use Rattle.header.specs.declared.cursor.Header.{Header}
use Rattle.sizes.specs.Unknown.{unknown}
use Rattle.elements_rules.specs.Reading.{Outcome, refused, master_body}
use Rattle.elements_rules.specs.Rows.{width, rows_of}
use Rattle.elements_rules.specs.Theorems.{Each}
use Rattle.elements_rules.specs.Promise.{keeping, allowed, ReadPromise}
use Rattle.elements_rules.specs.Faults.{Errand, reads_header, Comes}
use Rattle.elements_rules.specs.declared.row.Row.{Row}
use Rattle.std.specs.Prelude.{Result, Ok, Err}
use Rattle.refusals.specs.declared.refusal.Refusal.{Refusal}

-- ---- sizes that are known

-- No header that is read by a reader that goes where `Reached` says has an unknown size.
abbrev pub AllKnown : List ℕ → (Reached : ℕ → Errand → Type 0) → Type 0
AllKnown s Reached =
    (a : ℕ) (x : Errand) (h : Header) → Reached a x → reads_header x ≡ true → header_of (drop a s) ≡ heading h
    → unknown h ≡ false

-- At no address of the recording stands a header of unknown size.
abbrev pub NoneUnknown : List ℕ → Type 0
NoneUnknown s = (a : ℕ) (h : Header) → header_of (drop a s) ≡ heading h → unknown h ≡ false

-- That is enough, whichever way a reader goes.
abbrev pub NoneIsAll : Type 1
NoneIsAll = (s : List ℕ) (Reached : ℕ → Errand → Type 0) → NoneUnknown s → AllKnown s Reached

-- ---- the two modes

-- In live mode a payload is 17, or what it is in old mode.
pub data LiveOr (old live : Outcome) : Type 0 where
  seventeen : (a : ℕ) → live ≡ refused (unknown_size a) → LiveOr old live
  equal : live ≡ old → LiveOr old live

-- Of a master's body, with rows or without.
abbrev pub BodyLiveOr : Type 0
BodyLiveOr =
    (s : List ℕ) (keep : Bool) (cap depth parent at size n : ℕ)
    → LiveOr (master_body s (record { keep = keep; live = false }) cap depth parent at size n)
    (master_body s (record { keep = keep; live = true }) cap depth parent at size n)

-- Of `read`: 17, or the same reply and the same table. It shuts out a live mode that takes an element of unknown size
-- up to the payload's end.
abbrev pub LiveReads : Type 0
LiveReads =
    (s : List ℕ) (start size parent : ℕ) (t : List ℕ) (r r' : Result ℕ Refusal) (t' u' : List ℕ)
    → ReadPromise false s start size parent t r t' → ReadPromise true s start size parent t r' u'
    → ((a : ℕ) × (r' ≡ Err (unknown_size a))) ⊎ ((r' ≡ r) × (u' ≡ t'))

-- If no header that the call reads in old mode has an unknown size, live mode gives the equal reply and table. With 14
-- it reads none. It shuts out a live mode that gives 17 for a size of all ones in a payload's bytes, which are no
-- header.
abbrev pub EqualReads : Type 0
EqualReads =
    (s : List ℕ) (start size parent : ℕ) (t : List ℕ) (r r' : Result ℕ Refusal) (t' u' : List ℕ)
    → (allowed s start (length t) ≡ true → AllKnown s
    (Comes s (keeping false) (length t / width) 0 parent start size 0))
    → ReadPromise false s start size parent t r t' → ReadPromise true s start size parent t r' u'
    → (r' ≡ r) × (u' ≡ t')

-- ---- rows

-- The header that a row tells.
abbrev pub header_of_row : Row → Header
header_of_row r = record { id = r.id; size = r.payload; length = r.header }

-- No row of a read that live mode accepts has an unknown size. It shuts out a live mode that keeps a Cluster of unknown
-- size as a row.
abbrev pub RowsKnown : Type 0
RowsKnown =
    (s : List ℕ) (start size parent : ℕ) (t : List ℕ) (n : ℕ) (t' : List ℕ)
    → ReadPromise true s start size parent t (Ok n) t'
    → Each (λ r. unknown (header_of_row r) ≡ false) (rows_of t' n)
