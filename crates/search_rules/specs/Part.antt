-- What the public call `find_part` promises of its reply and of the table.
use Rattle.std.specs.Prelude.{ℕ, ◌≡◌, List, [], Bool, cond, not, length, eqb}
use Rattle.refusals.specs.Refusals.{bad_argument}
use Rattle.refusals.specs.Reply.{Reply, accepted, refusal}
use Rattle.refusals.specs.declared.refusal.Refusal.{Refusal}
use Rattle.header.specs.declared.cursor.Headed.{Headed}
use Rattle.elements_rules.specs.Forest.{Forest, count}
use Rattle.elements_rules.specs.Reading.{done}
use Rattle.elements_rules.specs.Promise.{allowed, filled, zeros}
use Rattle.elements_rules.specs.Promise.{table_of as read_table}
use Rattle.seekchain_rules.specs.Answers.{on_outcome}
use Rattle.seekchain_rules.specs.Lookup.{Lookup}
use Rattle.seekchain_rules.specs.Lookup.{found as found_at, absent as absent_at, stopped as stopped_at}
use Rattle.segments_rules.specs.Segment.{lookup_of}
use Rattle.std.specs.Prelude.{Option, Some, None}
use Rattle.std.specs.Prelude.{Result, Ok, Err}
use Rattle.search_rules.specs.declared.part.Part.{Part}

-- The parts, each with the id that its children are read under (document 01, Kinds): Tracks, Attachments, Chapters and
-- Tags.
unfoldable pub parent_of : ℕ → Option ℕ
parent_of part =
    cond (eqb part 0x1654AE6B) (Some 0xAE)
    (cond (eqb part 0x1941A469) (Some 0x61A7)
    (cond (eqb part 0x1043A770) (Some 0x45B9)
    (cond (eqb part 0x1254C367) (Some 0x7373) None)))

-- What a search comes to: a part with its payload's address and size, the addresses of the heads that were read, and
-- its elements; or an absent part, with the heads; or a refusal.
pub data Search : Type 0 where
  found : (at size : ℕ) (heads : List ℕ) (elements : Forest) → Search
  absent : (heads : List ℕ) → Search
  refused : Refusal → Search

abbrev pub on_parent : Option ℕ → Search → (ℕ → Search) → Search
on_parent (Some parent) none some = some parent
on_parent None none some = none

abbrev pub on_lookup : Lookup → (Headed → List ℕ → Search) → Search
on_lookup (found_at e heads) next = next e heads
on_lookup (absent_at heads) next = absent heads
on_lookup (stopped_at e) next = refused e

-- The search for a part with a table of so many numbers (document 01, Seek tables and the search): 14 for the lengths
-- (no start is given) and for the part; then the walk; then the part's payload, read as the public read would fill the
-- table.
unfoldable pub search_of : (live : Bool) → List ℕ → (part numbers : ℕ) → Search
search_of live s part numbers =
    cond (not (allowed s 0 numbers)) (refused bad_argument)
    (on_parent (parent_of part) (refused bad_argument) (λ parent.
    on_lookup (lookup_of live s part) (λ e heads.
    on_outcome (filled live s e.payload.at e.header.size parent numbers) refused
    (found e.payload.at e.header.size heads))))

-- The addresses of the heads of an accepted search.
unfoldable pub heads_of : Search → List ℕ
heads_of (found at size heads f) = heads
heads_of (absent heads) = heads
heads_of (refused e) = []

-- What a reply tells: the part's payload by address and size, how many rows it has, and how many heads were read; or
-- that the part is absent.
pub data PartTold : Type 0 where
  found_part : (at size rows heads : ℕ) → PartTold
  absent_part : (heads : ℕ) → PartTold

abbrev pub reply_of : Search → Reply PartTold
reply_of (found at size heads f) = accepted (found_part at size (count f) (length heads))
reply_of (absent heads) = accepted (absent_part (length heads))
reply_of (refused e) = refusal e

-- The table: as the public read leaves it; zeros for an absent part and after a refusal.
unfoldable pub table_of : ℕ → Search → List ℕ
table_of numbers (found at size heads f) = read_table at numbers (done f)
table_of numbers (absent heads) = zeros numbers
table_of numbers (refused e) = zeros numbers

-- Document 01's values for each case of a reply, or the refusal.
abbrev pub part_told : Result (Option Part × ℕ) Refusal → Reply PartTold
part_told (Ok (Some p, heads)) = accepted (found_part p.at p.size p.rows heads)
part_told (Ok (None, heads)) = accepted (absent_part heads)
part_told (Err e) = refusal e

pub record PartPromise (live : Bool) (s : List ℕ) (part : ℕ) (t : List ℕ) (r : Result (Option Part × ℕ) Refusal) (t' : List ℕ) : Type 0 where
  pub reply : part_told r ≡ reply_of (search_of live s part (length t))
  pub table : t' ≡ table_of (length t) (search_of live s part (length t))
