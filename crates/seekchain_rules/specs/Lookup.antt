-- The part that seek heads lead to (document 01, Seek tables and the search; document 02, C-18).
use Rattle.std.specs.Prelude.{ℕ, ◌+◌, List, Bool, cond}
use Rattle.refusals.specs.Refusals.{invalid_seek_head}
use Rattle.refusals.specs.declared.refusal.Refusal.{Refusal}
use Rattle.header.specs.declared.cursor.Headed.{Headed}
use Rattle.seekhead_rules.specs.Table.{on_latest, latest}
use Rattle.walks_rules.specs.Answers.{on_header}
use Rattle.seekchain_rules.specs.Heads.{Heads, Chain, chained, broken, too_far, last_head, sought, linked_heads}
use Rattle.std.specs.Prelude.{Option}

-- Where a part is: the part, or that it is absent, with the addresses of the heads that were read; or why the search
-- stopped.
pub data Lookup : Type 0 where
  found : Headed → List ℕ → Lookup
  absent : List ℕ → Lookup
  stopped : Refusal → Lookup

abbrev pub on_chain : Chain → (Heads → Lookup) → Lookup
on_chain (chained heads) next = next heads
on_chain (broken e) next = stopped e

-- The part by the latest position of its id, where the heads at some addresses were read: absent, or 8 at the last of
-- them, header, 17, 9.
unfoldable pub part_at : (live : Bool) → List ℕ → (wanted start : ℕ) (heads : List ℕ) (link : Option ℕ) → Lookup
part_at live s wanted start heads link =
    on_latest link (absent heads) (λ position.
    cond (too_far start position) (stopped (invalid_seek_head wanted (last_head heads)))
    (on_header (sought live s (start + position) wanted) stopped (λ part. found part heads)))

-- When all linked heads were read, the wanted id is looked up. It is never that of a seek head, whose entries were
-- dropped.
unfoldable pub by_heads : (live : Bool) → List ℕ → (wanted start : ℕ) (first : Headed) → Lookup
by_heads live s wanted start first =
    on_chain (linked_heads live s start first) (λ heads.
    part_at live s wanted start heads.addresses (latest wanted heads.entries))
