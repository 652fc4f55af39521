-- What is proved of the definitions beside the contracts (document 01, Seek tables and the search; Strength of the
-- promises): the statements of the theorems.
use Rattle.std.specs.Prelude.{ℕ, ◌+◌, ◌-◌, ◌≤◌, ◌<◌, ◌≡◌, List, [], ◌∷◌, Bool, true, false, length, leb}
use Rattle.refusals.specs.Refusals.{invalid_seek_head, head_again, too_many_heads}
use Rattle.header.specs.Reads.{header_at}
use Rattle.header.specs.declared.cursor.Headed.{Headed}
use Rattle.kinds.specs.Kinds.{member}
use Rattle.elements_rules.specs.Forest.{Forest}
use Rattle.elements_rules.specs.Reading.{done}
use Rattle.seekhead_rules.specs.Seeks.{seek_head_id, head_of, entries}
use Rattle.seekhead_rules.specs.Table.{latest}
use Rattle.seekhead_rules.specs.declared.seek.Seek.{Seek}
use Rattle.walks_rules.specs.Answers.{on_header}
use Rattle.seekchain_rules.specs.Answers.{on_outcome}
use Rattle.seekchain_rules.specs.Heads.{Heads, Chain, chained, broken, with_head, most_heads, next_head, on_next}
use Rattle.seekchain_rules.specs.Heads.{too_far, last_head, sought, chain, linked_heads}
use Rattle.seekchain_rules.specs.Lookup.{Lookup, found, absent, stopped, by_heads}
use Rattle.std.specs.Prelude.{Option, Ok, Err, Some, None}

-- An element with that id is at an address: its header was read there.
pub record IsAt (s : List ℕ) (id address : ℕ) (e : Headed) : Type 0 where
  pub head : header_at s address ≡ Ok e
  pub named : e.header.id ≡ id

-- ---- what follows a head

-- The order of the tests on an entry for a further head: 8, 10, 11, then what is at the address. It shuts out a reader
-- that gives 11 for a head that was read already, and one that looks at the header of a 65th head.
pub record NextOrder (live : Bool) (s : List ℕ) (start : ℕ) (seen : List ℕ) : Type 0 where
  pub none : next_head live s start seen None ≡ (Ok None)
  pub eight :
      (p : ℕ) → too_far start p ≡ true
      → next_head live s start seen (Some p) ≡ Err (invalid_seek_head seek_head_id (last_head seen))
  pub ten :
      (p : ℕ) → too_far start p ≡ false → member (start + p) seen ≡ true
      → next_head live s start seen (Some p) ≡ Err (head_again (start + p))
  pub eleven :
      (p : ℕ) → too_far start p ≡ false → member (start + p) seen ≡ false → leb most_heads (length seen) ≡ true
      → next_head live s start seen (Some p) ≡ Err (too_many_heads (start + p))
  pub there :
      (p : ℕ) → too_far start p ≡ false → member (start + p) seen ≡ false → leb most_heads (length seen) ≡ false
      → next_head live s start seen (Some p) ≡ on_header (sought live s (start + p) seek_head_id) Err (λ x. Ok (Some x))

abbrev pub NextInOrder : Type 0
NextInOrder = (live : Bool) (s : List ℕ) (start : ℕ) (seen : List ℕ) → NextOrder live s start seen

-- ---- the heads

-- The heads from one on, where others were read.
abbrev pub heads_from : (live : Bool) → List ℕ → (start : ℕ) → Heads → Headed → Chain
heads_from live s start heads head = chain live s start (most_heads - length heads.addresses) heads head

-- One head after another. The bound of the definition hides no answer: where it is reached, `next_head` has refused.
pub record ChainUnfolds : Type 0 where
  pub unfolds :
      (live : Bool) (s : List ℕ) (start : ℕ) (heads : Heads) (head : Headed) → length heads.addresses < most_heads
      → heads_from live s start heads head
      ≡ on_outcome (head_of live s head) broken (λ f.
      let own = entries s head.payload.at f in
      let all = with_head heads head own in
      on_next (next_head live s start all.addresses (latest seek_head_id own)) (chained all) broken
      (heads_from live s start all))
  pub bounded :
      (live : Bool) (s : List ℕ) (start : ℕ) (seen : List ℕ) (link : Option ℕ) (head : Headed)
      → next_head live s start seen link ≡ Ok (Some head) → length seen < most_heads

-- A seek head is at the address, and its whole payload was read.
pub record IsHead (live : Bool) (s : List ℕ) (address : ℕ) : Type 0 where
  pub element : Headed
  pub is : IsAt s seek_head_id address element
  pub elements : Forest
  pub read : head_of live s element ≡ done elements

unfoldable pub AreHeads : (live : Bool) → List ℕ → List ℕ → Type 0
AreHeads live s [] = Unit
AreHeads live s (a ∷ rest) = IsHead live s a × AreHeads live s rest

-- An address is not among others.
unfoldable pub NotAmong : ℕ → List ℕ → Type 0
NotAmong a [] = Unit
NotAmong a (b ∷ rest) = (a ≡ b → ⊥) × NotAmong a rest

unfoldable pub Distinct : List ℕ → Type 0
Distinct [] = Unit
Distinct (a ∷ rest) = NotAmong a rest × Distinct rest

-- Heads as a search reads them: each is one, they are at different addresses, and there are at most 64.
pub record GoodHeads (live : Bool) (s heads : List ℕ) : Type 0 where
  pub are : AreHeads live s heads
  pub distinct : Distinct heads
  pub few : length heads ≤ most_heads

-- ---- what they lead to

-- A part that the entries of the heads name: it is at the segment's start plus the position of the last entry of its
-- id. So a stale entry is never followed to another element.
pub record Named (live : Bool) (s : List ℕ) (wanted start : ℕ) (first part : Headed) (heads : List ℕ) : Type 0 where
  pub entries : List Seek
  pub position : ℕ
  pub read : linked_heads live s start first ≡ chained (record { addresses = heads; entries = entries })
  pub last : latest wanted entries ≡ Some position
  pub is : IsAt s wanted (start + position) part

-- A part that no entry names.
pub record Unnamed (live : Bool) (s : List ℕ) (wanted start : ℕ) (first : Headed) (heads : List ℕ) : Type 0 where
  pub entries : List Seek
  pub read : linked_heads live s start first ≡ chained (record { addresses = heads; entries = entries })
  pub never : latest wanted entries ≡ None

-- What a place that the heads lead to is.
abbrev pub ByHeads : (live : Bool) → List ℕ → (wanted start : ℕ) (first : Headed) → Lookup → Type 0
ByHeads live s wanted start first (found part heads) = Named live s wanted start first part heads
    × GoodHeads live s heads
ByHeads live s wanted start first (absent heads) = Unnamed live s wanted start first heads × GoodHeads live s heads
ByHeads live s wanted start first (stopped e) = Unit

abbrev pub HeadsLead : Type 0
HeadsLead =
    (live : Bool) (s : List ℕ) (wanted start : ℕ) (first : Headed) → IsAt s seek_head_id first.place.at first
    → ByHeads live s wanted start first (by_heads live s wanted start first)
