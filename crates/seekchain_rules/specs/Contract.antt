-- What the functions of `seekchain` promise each other: how the definitions are told by the code's types.
use Rattle.std.specs.Prelude.{ℕ, ◌≡◌, List, Bool, length}
use Rattle.seekhead_rules.specs.Table.{positions}
use Rattle.seekhead_rules.specs.declared.head.Wanted.{Wanted}
use Rattle.seekchain_rules.specs.Heads.{Chain, chained, broken, last_head}
use Rattle.seekchain_rules.specs.Lookup.{Lookup, found, absent, stopped, part_at}
use Rattle.seekchain_rules.specs.declared.heads.HeadsRead.{HeadsRead}
use Rattle.std.specs.Prelude.{Result, Option, Ok, Err, Some, None}
use Rattle.header.specs.declared.cursor.Headed.{Headed}
use Rattle.refusals.specs.declared.refusal.Refusal.{Refusal}

-- How `linked_heads` tells the chain: the positions of a set of wanted ids by all entries, how many heads there are,
-- and which is the last.
abbrev pub heads_told : Wanted → Chain → Result HeadsRead Refusal
heads_told wanted (chained heads) =
    Ok (record {
      parts = positions wanted heads.entries;
      heads = length heads.addresses;
      last = last_head heads.addresses;
    })
heads_told wanted (broken e) = Err e

-- How `part_at` and `by_heads` tell where a part is.
abbrev pub place_told : Lookup → Result (Option Headed × ℕ) Refusal
place_told (found part heads) = Ok (Some part, length heads)
place_told (absent heads) = Ok (None, length heads)
place_told (stopped e) = Err e

-- What `part_at` answers where so many heads were read: it needs their count and the last one alone.
abbrev pub PartMet : (live : Bool) → List ℕ → (wanted start n last : ℕ) → Option ℕ → Result (Option Headed × ℕ) Refusal → Type 0
PartMet live s wanted start n last link r =
    (heads : List ℕ) → length heads ≡ n → last_head heads ≡ last
    → r ≡ place_told (part_at live s wanted start heads link)
