-- A row of an accepted read has its payload in the recording (`RowsHaveRanges`). Assumes nothing.
use Prim.Native.Nat.{ℕ, ◌+◌, ◌/◌, ◌≤◌, ◌<◌}
use mathlib.Core.Path.{◌≡◌, sym, ◌∙◌, subst}
use mathlib.Core.List.{List}
use mathlib.Core.Bool.{Bool, true}
use native.Mathlib.Omega.{arith}
use lib.ListN.{length}
use borrow.Author.Tests.{le-leb, lt-ltb, not-false}
use Rattle.elements_rules.specs.Forest.{Forest}
use Rattle.elements_rules.specs.Reading.{done}
use Rattle.elements_rules.specs.Rows.{width, row_at, rows_of}
use Rattle.elements_rules.specs.Promise.{allowed, read_of}
use Rattle.elements_rules.specs.Theorems.{Sound}
use Rattle.elements_rules.proofs.Limits.{within, by_start}
use Rattle.elements_rules.proofs.Numbered.{length_rows_of, row_of_law, each_at}
use Rattle.elements_rules.proofs.Outcomes.{of_refuse}
use Rattle.elements_rules.proofs.Readback.{accepted_read}
use Rattle.elements_rules.proofs.Sound.{rows_sound}
use Rattle.places_rules.specs.Payload.{range, payload_range}
use Rattle.places_rules.specs.Theorems.{RowsHaveRanges}

-- ---- the range of a row

ranged : (s t : List ℕ) (k : ℕ) → allowed s 0 (length t) ≡ true → k < length t / width
    → (row_at t k).address + (row_at t k).header + (row_at t k).payload ≤ length s
    → payload_range s t k ≡ range ((row_at t k).address + (row_at t k).header) (row_at t k).payload
unfolding payload_range
ranged s t k a l i =
    rw (
      a,
      lt-ltb k (length t / width) l,
      le-leb ((row_at t k).address + (row_at t k).header + (row_at t k).payload) (length s) i,
    )

-- Where a start is allowed, 0 is.
from_zero : (s : List ℕ) (start numbers : ℕ) → allowed s start numbers ≡ true → allowed s 0 numbers ≡ true
from_zero s start numbers q =
    let w = within s start numbers q in
    sym (by_start s 0 numbers w.bytes w.multiple w.few) ∙ le-leb 0 (length s) (omega arith)

was_allowed : (live : Bool) (s : List ℕ) (start size parent numbers : ℕ) {f : Forest}
    → read_of live s start size parent numbers ≡ done f
    → allowed s start numbers ≡ true
unfolding read_of
was_allowed live s start size parent numbers q = not-false _ (of_refuse _ _ _ q).0

pub rows_have_ranges : RowsHaveRanges
rows_have_ranges live s start size parent t n t' p k l =
    let a = accepted_read live s start size parent t n t' p in
    let all = rows_sound live s start size parent t n t' p in
    let sound = each_at (Sound s) (rows_of t' n) k (rw (length_rows_of t' n) l) all in
    let mine = subst (Sound s) (row_of_law t' n k l) sound in
    let free = from_zero s start (length t) (was_allowed live s start size parent (length t) a.outcome) in
    let few = a.fits in
    ranged s t' k (rw a.as_long free) (rw a.as_long (omega arith)) mine.inside
