-- The chain of linked seek heads: which are read, at which addresses, and all their entries (document 01, Seek tables
-- and the search; document 02, C-18).
use Rattle.std.specs.Prelude.{ℕ, zero, suc, ◌+◌, List, [], ◌∷◌, ◌++◌, Bool, cond, length, ltb, leb, eqb}
use Rattle.refusals.specs.Refusals.{past_end, invalid_seek_head, stale_entry, head_again, too_many_heads}
use Rattle.refusals.specs.declared.refusal.Refusal.{Refusal}
use Rattle.header.specs.declared.cursor.Headed.{Headed}
use Rattle.kinds.specs.Kinds.{member}
use Rattle.seekhead_rules.specs.Seeks.{seek_head_id, head_of, entries}
use Rattle.seekhead_rules.specs.Table.{on_latest, latest}
use Rattle.seekhead_rules.specs.declared.seek.Seek.{Seek}
use Rattle.walks_rules.specs.Answers.{on_header}
use Rattle.seekchain_rules.specs.Answers.{on_outcome}
use Rattle.walks_rules.specs.Step.{child_at, on_child}
use Rattle.walks_rules.specs.declared.step.Stretch.TheVariants.{Sized}
use Rattle.std.specs.Prelude.{Result, Option, Ok, Err, Some, None}

-- ---- addresses

-- 2^64-1.
abbrev pub last_address : ℕ
last_address = 18446744073709551615

-- Whether the segment's start plus a position exceeds it.
abbrev pub too_far : (start position : ℕ) → Bool
too_far start position = ltb last_address (start + position)

-- The element that a sought address holds, up to the recording's end: 1 past it, header, 17, 9 where its id is another,
-- each at the address.
unfoldable pub sought : (live : Bool) → List ℕ → (address id : ℕ) → Result Headed Refusal
sought live s address id =
    on_child (child_at live s (Sized (length s)) address) (Err (past_end address)) Err (λ e.
    cond (eqb e.header.id id) (Ok e) (Err (stale_entry address)))

-- ---- the next head

-- The most heads of one search, the first included (document 01, Numbers that bound a call).
abbrev pub most_heads : ℕ
most_heads = 64

-- The last of the heads that were read; there is always one where it is asked for.
unfoldable pub last_head : List ℕ → ℕ
last_head [] = 0
last_head (a ∷ []) = a
last_head (a ∷ b ∷ rest) = last_head (b ∷ rest)

-- The head that a head's entry for one leads to, where the heads at some addresses were read: 8, 10, 11, header, 17, 9.
-- Without such an entry there is none. 8 is at the last head that was read, 10 and 11 at the one that is not.
unfoldable pub next_head : (live : Bool) → List ℕ → (start : ℕ) (seen : List ℕ) (link : Option ℕ) → Result (Option Headed) Refusal
next_head live s start seen link =
    on_latest link (Ok None) (λ position.
    cond (too_far start position) (Err (invalid_seek_head seek_head_id (last_head seen)))
    (cond (member (start + position) seen) (Err (head_again (start + position)))
    (cond (leb most_heads (length seen)) (Err (too_many_heads (start + position)))
    (on_header (sought live s (start + position) seek_head_id) Err (λ x. Ok (Some x))))))

abbrev pub on_next : {A : Type 0} → Result (Option Headed) Refusal → A → (Refusal → A) → (Headed → A) → A
on_next (Ok (Some head)) last stop next = next head
on_next (Ok None) last stop next = last
on_next (Err e) last stop next = stop e

-- ---- the chain

-- Heads that were read: their addresses in order, and all their entries.
pub record Heads : Type 0 where
  pub addresses : List ℕ
  pub entries : List Seek

abbrev pub no_heads : Heads
no_heads = record { addresses = []; entries = [] }

-- One head more, with its own entries.
abbrev pub with_head : Heads → Headed → List Seek → Heads
with_head heads head own = record {
  addresses = heads.addresses ++ (head.place.at ∷ []);
  entries = heads.entries ++ own;
}

-- The heads that were read, or why reading stopped.
pub data Chain : Type 0 where
  chained : Heads → Chain
  broken : Refusal → Chain

-- The heads from one on, after others: its payload is read by the element rules, and its entry for a head leads to the
-- next. It is looked for in the head's own entries, since those before were followed and dropped. `more` heads may be
-- read.
unfoldable pub chain : (live : Bool) → List ℕ → (start more : ℕ) → Heads → Headed → Chain
chain live s start zero heads head = broken (too_many_heads head.place.at)
chain live s start (suc more) heads head =
    on_outcome (head_of live s head) broken (λ f.
    let own = entries s head.payload.at f in
    let all = with_head heads head own in
    on_next (next_head live s start all.addresses (latest seek_head_id own)) (chained all) broken
    (chain live s start more all))

-- All heads from the first on.
abbrev pub linked_heads : (live : Bool) → List ℕ → (start : ℕ) → Headed → Chain
linked_heads live s start first = chain live s start most_heads no_heads first
