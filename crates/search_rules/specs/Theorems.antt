-- What is proved of the definitions beside the contracts: the statements of the theorems.
use Rattle.std.specs.Prelude.{ℕ, ◌≡◌, List, [], ◌∷◌, Bool, length}
use Rattle.header.specs.declared.cursor.Headed.{Headed}
use Rattle.refusals.specs.Theorems.{Listed}
use Rattle.refusals.specs.declared.refusal.Refusal.{Refusal}
use Rattle.elements_rules.specs.Promise.{zeros, ReadPromise}
use Rattle.seekhead_rules.specs.Seeks.{seek_head_id}
use Rattle.seekchain_rules.specs.Theorems.{IsAt, GoodHeads, Named}
use Rattle.segments_rules.specs.Segment.{segment_of}
use Rattle.search_rules.specs.Part.{parent_of, search_of, heads_of, PartPromise}
use Rattle.std.specs.Prelude.{Ok, Some}
use Rattle.std.specs.Prelude.{Result, Option, Err, None}
use Rattle.search_rules.specs.declared.part.Part.{Part}

-- Any two replies and tables that the promise permits to one question are equal (document 01, Strength of the
-- promises). The numbers that stood in the lent table do not matter, only how many there are.
abbrev pub OnePart : Type 0
OnePart =
    (live : Bool) (s : List ℕ) (part : ℕ) (t u : List ℕ) (r r' : Result (Option Part × ℕ) Refusal) (t' u' : List ℕ) → length t ≡ length u
    → PartPromise live s part t r t' → PartPromise live s part u r' u' → (r ≡ r') × (t' ≡ u')

-- A refusal that the promise permits is one of the list (`Listed`).
abbrev pub RefusesListed : Type 0
RefusesListed = (live : Bool) (s : List ℕ) (part : ℕ) (t : List ℕ) (e : Refusal) (t' : List ℕ)
    → PartPromise live s part t (Err e) t' → Listed e

-- The heads of an accepted search: a seek head was read at each address, no address comes twice, and there are at most
-- 64.
abbrev pub HeadsAllowed : Type 0
HeadsAllowed = (live : Bool) (s : List ℕ) (part numbers : ℕ) → GoodHeads live s (heads_of (search_of live s part numbers))

-- The count in the reply is the length of the list of heads that the definition reads.
abbrev pub HeadsCounted : Type 0
HeadsCounted =
    (live : Bool) (s : List ℕ) (part : ℕ) (t t' : List ℕ)
    → ((at size rows heads : ℕ) → PartPromise live s part t (Ok (Some (record { at = at; size = size; rows = rows }), heads)) t'
    → heads ≡ length (heads_of (search_of live s part (length t))))
    × ((heads : ℕ) → PartPromise live s part t (Ok (None, heads)) t'
    → heads ≡ length (heads_of (search_of live s part (length t))))

-- What a found part is: an element of the wanted id, with no head read; or the element at the position that the last
-- entry of its id names, in the chain of heads from a seek head on. So a stale entry is never followed to another
-- element. Where the walk met the element or the head is what `search_of` says.
pub data FoundWay (live : Bool) (s : List ℕ) (wanted start : ℕ) (part : Headed) (heads : List ℕ) : Type 0 where
  met : IsAt s wanted part.place.at part → heads ≡ [] → FoundWay live s wanted start part heads
  named :
      (first : Headed) → IsAt s seek_head_id first.place.at first → Named live s wanted start first part heads
      → FoundWay live s wanted start part heads

-- A part in the segment that was found, with the heads that were read.
pub record FoundBy (live : Bool) (s : List ℕ) (wanted at size : ℕ) (heads : List ℕ) : Type 0 where
  pub part : Headed
  pub payload : part.payload.at ≡ at
  pub sized : part.header.size ≡ size
  pub segment : Headed
  pub is_segment : segment_of live s ≡ Ok segment
  pub way : FoundWay live s wanted segment.payload.at part heads

abbrev pub FoundIsPart : Type 0
FoundIsPart =
    (live : Bool) (s : List ℕ) (part : ℕ) (t : List ℕ) (at size rows heads : ℕ) (t' : List ℕ)
    → PartPromise live s part t (Ok (Some (record { at = at; size = size; rows = rows }), heads)) t'
    → FoundBy live s part at size (heads_of (search_of live s part (length t)))

-- It is read as the public read would read it, so that every theorem on an accepted read holds of it: the table loses
-- nothing.
abbrev pub FoundIsRead : Type 0
FoundIsRead =
    (live : Bool) (s : List ℕ) (part parent : ℕ) (t : List ℕ) (at size rows heads : ℕ) (t' : List ℕ)
    → PartPromise live s part t (Ok (Some (record { at = at; size = size; rows = rows }), heads)) t' → parent_of part ≡ Some parent
    → ReadPromise live s at size parent t (Ok rows) t'

-- The table is written whatever happens: zeros for an absent part, and after a refusal.
abbrev pub NotUntouched : Type 0
NotUntouched =
    (live : Bool) (s : List ℕ) (part : ℕ) (t t' : List ℕ)
    → ((heads : ℕ) → PartPromise live s part t (Ok (None, heads)) t' → t' ≡ zeros (length t))
    × ((e : Refusal) → PartPromise live s part t (Err e) t' → t' ≡ zeros (length t))

-- ---- the useless reader that reports a made-up count of heads (document 01, Strength of the promises)

-- A segment with an empty Tags, alone and behind an empty seek head.
abbrev pub tags_alone : List ℕ
tags_alone = 0x18 ∷ 0x53 ∷ 0x80 ∷ 0x67 ∷ 0x85 ∷ 0x12 ∷ 0x54 ∷ 0xC3 ∷ 0x67 ∷ 0x80 ∷ []

abbrev pub tags_behind_a_head : List ℕ
tags_behind_a_head =
    0x18 ∷ 0x53 ∷ 0x80 ∷ 0x67 ∷ 0x8A ∷ 0x11 ∷ 0x4D ∷ 0x9B ∷ 0x74 ∷ 0x80 ∷ 0x12 ∷ 0x54 ∷ 0xC3 ∷ 0x67 ∷ 0x80 ∷ []

-- The reply on the first says 0 heads, on the second 1: no one count is permitted for both. `HeadsCounted` says it of
-- every recording.
abbrev pub NotMadeUp : Type 0
NotMadeUp =
    (live : Bool) (t u : List ℕ) (r r' : Result (Option Part × ℕ) Refusal) (t' u' : List ℕ) → length t ≡ 0 → length u ≡ 0
    → PartPromise live tags_alone 0x1254C367 t r t' → PartPromise live tags_behind_a_head 0x1254C367 u r' u'
    → (r ≡ Ok (Some (record { at = 10; size = 0; rows = 0 }), 0)) × (r' ≡ Ok (None, 1))
