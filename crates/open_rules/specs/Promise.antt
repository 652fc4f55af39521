-- What the public call `open` promises of its reply and of the five tables.
use Rattle.std.specs.Prelude.{ℕ, ◌≡◌, List, Bool, cond, not, ◌&&◌, length}
use Rattle.refusals.specs.Refusals.{bad_argument}
use Rattle.elements_rules.specs.Promise.{allowed}
use Rattle.open_rules.specs.Tables.{Tables, Sizes, sizes_of, zeroed, shown}
use Rattle.open_rules.specs.Opening.{Opening, read, refused, whole_of}
use Rattle.std.specs.Prelude.{Result, Ok, Err}
use Rattle.open_rules.specs.declared.parts.Parts.{Parts}
use Rattle.refusals.specs.declared.refusal.Refusal.{Refusal}

-- The recording is within its limit, and each table within its own (no start is given).
unfoldable pub are_allowed : List ℕ → Sizes → Bool
are_allowed s n =
    allowed s 0 n.info && (allowed s 0 n.tracks && (allowed s 0 n.attachments
    && (allowed s 0 n.chapters && allowed s 0 n.tags)))

-- The call with tables of so many numbers: 14 for a length, then the first refusal that is met, or the parts.
unfoldable pub open_of : (live : Bool) → List ℕ → Sizes → Opening
open_of live s n = cond (not (are_allowed s n)) (refused bad_argument) (whole_of live s n)

-- The reply tells how many heads there were.
abbrev pub reply_of : Opening → Result (Parts × ℕ) Refusal
reply_of (read ps heads) = Ok (ps, length heads)
reply_of (refused e) = Err e

-- The five tables: each as the public read of its part leaves it, zeros for an absent part; after a refusal all zeros.
unfoldable pub tables_of : (live : Bool) → List ℕ → Sizes → Opening → Tables
tables_of live s n (read ps heads) = shown live s n ps
tables_of live s n (refused e) = zeroed n

pub record OpenPromise
    (live : Bool) (s : List ℕ) (t : Tables) (r : Result (Parts × ℕ) Refusal) (t' : Tables) : Type 0 where
  pub reply : r ≡ reply_of (open_of live s (sizes_of t))
  pub tables : t' ≡ tables_of live s (sizes_of t) (open_of live s (sizes_of t))
