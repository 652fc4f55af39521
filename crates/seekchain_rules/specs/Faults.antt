-- How a search comes, from the first seek head on, to the address that its refusal names (document 02, C-12).
use Rattle.std.specs.Prelude.{ℕ, ◌+◌, ◌≡◌, List, Bool, false, length, leb}
use Rattle.refusals.specs.declared.refusal.Refusal.{Refusal}
use Rattle.header.specs.declared.cursor.Headed.{Headed}
use Rattle.kinds.specs.Kinds.{member}
use Rattle.elements_rules.specs.Forest.{Forest}
use Rattle.elements_rules.specs.Reading.{done}
use Rattle.elements_rules.specs.Faults.{Errand, to_find, to_follow, to_look_up, FaultThere, Comes}
use Rattle.seekhead_rules.specs.Seeks.{segment_id, seek_head_id, without_rows, head_of, entries}
use Rattle.seekhead_rules.specs.Table.{latest}
use Rattle.seekhead_rules.specs.declared.seek.Seek.{Seek}
use Rattle.seekchain_rules.specs.Heads.{Heads, no_heads, with_head, most_heads, next_head, too_far}
use Rattle.seekchain_rules.specs.Lookup.{stopped, by_heads}
use Rattle.std.specs.Prelude.{Ok, Some, None}

-- The heads that were read from the first on, with all their entries, and the last one's own entries: each was read
-- whole, and its own entry for a head led to the next.
pub data Followed (live : Bool) (s : List ℕ) (start : ℕ) (first : Headed) : Heads → List Seek → Type 0 where
  one :
      (f : Forest) → head_of live s first ≡ done f
      → Followed live s start first (with_head no_heads first (entries s first.payload.at f))
      (entries s first.payload.at f)
  more :
      (heads : Heads) (own : List Seek) (head : Headed) (f : Forest) → Followed live s start first heads own
      → next_head live s start heads.addresses (latest seek_head_id own) ≡ Ok (Some head) → head_of live s head ≡ done f
      → Followed live s start first (with_head heads head (entries s head.payload.at f))
      (entries s head.payload.at f)

-- The head that is read when some were: the first, or the one that the last one's entry leads to.
pub data ReadNext (live : Bool) (s : List ℕ) (start : ℕ) (first : Headed) : Heads → Headed → Type 0 where
  initial : ReadNext live s start first no_heads first
  linked :
      (heads : Heads) (own : List Seek) (head : Headed) → Followed live s start first heads own
      → next_head live s start heads.addresses (latest seek_head_id own) ≡ Ok (Some head)
      → ReadNext live s start first heads head

-- What a search for a part comes to from the first head on: an element of a head that it reads; an entry for a further
-- head, among the last head's own, and the address that it names; and when there is none, the last entry for the part
-- among those of all heads, and the address that it names. Which address an entry's own refusal has is said by `Fault`.
pub data HeadsCome (live : Bool) (s : List ℕ) (wanted start : ℕ) (first : Headed) : ℕ → Errand → Type 0 where
  in_head :
      (heads : Heads) (head : Headed) (a : ℕ) (x : Errand) → ReadNext live s start first heads head
      → Comes s (without_rows live) 0 0 segment_id head.payload.at head.header.size 0 a x
      → HeadsCome live s wanted start first a x
  by_link :
      (heads : Heads) (own : List Seek) (position a : ℕ) → Followed live s start first heads own
      → latest seek_head_id own ≡ Some position
      → HeadsCome live s wanted start first a (to_follow start position heads.addresses)
  to_head :
      (heads : Heads) (own : List Seek) (position : ℕ) → Followed live s start first heads own
      → latest seek_head_id own ≡ Some position → too_far start position ≡ false
      → member (start + position) heads.addresses ≡ false → leb most_heads (length heads.addresses) ≡ false
      → HeadsCome live s wanted start first (start + position) (to_find live seek_head_id)
  by_entry :
      (heads : Heads) (own : List Seek) (position a : ℕ) → Followed live s start first heads own
      → latest seek_head_id own ≡ None → latest wanted heads.entries ≡ Some position
      → HeadsCome live s wanted start first a (to_look_up wanted start position heads.addresses)
  to_part :
      (heads : Heads) (own : List Seek) (position : ℕ) → Followed live s start first heads own
      → latest seek_head_id own ≡ None → latest wanted heads.entries ≡ Some position
      → too_far start position ≡ false
      → HeadsCome live s wanted start first (start + position) (to_find live wanted)

-- What the heads are refused for is there. It shuts out a reader that tells of 8 the head with the entry where a later
-- one was read, of 10 and 11 the head that was read last, and of 9 the head that names the address.
abbrev pub HeadsHonest : Type 0
HeadsHonest =
    (live : Bool) (s : List ℕ) (wanted start : ℕ) (first : Headed) (e : Refusal)
    → by_heads live s wanted start first ≡ stopped e
    → FaultThere s (HeadsCome live s wanted start first) e
