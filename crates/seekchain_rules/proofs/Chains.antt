-- The chain of linked heads, head by head. Assumes nothing.
use Prim.Native.Nat.{ℕ, suc, ◌+◌, ◌-◌, ◌<◌}
use mathlib.Core.Path.{◌≡◌, refl, sym, ap, ◌∙◌}
use mathlib.Core.List.{List, [], ◌∷◌, ◌++◌}
use mathlib.Core.Bool.{Bool}
use native.Mathlib.Omega.{arith}
use lib.ListN.{length, take, set, length-set, length-append}
use lib.Seq.{length-take-le}
use Rattle.refusals.specs.declared.refusal.Refusal.{Refusal}
use Rattle.header.specs.Reads.{header_at}
use Rattle.header.specs.declared.cursor.Headed.{Headed}
use Rattle.elements_rules.specs.Forest.{Forest}
use Rattle.elements_rules.specs.Reading.{done}
use Rattle.seekhead_rules.specs.Seeks.{seek_head_id, head_of, entries}
use Rattle.seekhead_rules.specs.Table.{latest, positions_from, no_positions, positions}
use Rattle.seekhead_rules.specs.Contract.{with_entries, fresh, head_told}
use Rattle.seekhead_rules.specs.declared.seek.Seek.{Seek}
use Rattle.seekhead_rules.specs.declared.head.Wanted.{Wanted}
use Rattle.seekhead_rules.specs.declared.head.Positions.{Positions}
use Rattle.seekhead_rules.specs.declared.head.Seektable.{Seektable}
use Rattle.seekhead_rules.proofs.PositionLaws.{positions_append, positions_none}
use Rattle.seekhead_rules.proofs.Levels.{told_read, told_stopped}
use Rattle.seekhead_rules.proofs.Members.{children, children_law}
use Rattle.seekchain_rules.specs.Heads.{Heads, Chain, chained, broken, with_head, most_heads, next_head, on_next}
use Rattle.seekchain_rules.specs.Heads.{last_head, chain, linked_heads}
use Rattle.seekchain_rules.specs.Contract.{heads_told}
use Rattle.seekchain_rules.specs.Answers.{on_outcome}
use Rattle.seekchain_rules.specs.Theorems.{heads_from, ChainUnfolds}
use Rattle.seekchain_rules.specs.declared.heads.HeadsRead.{HeadsRead}
use Rattle.seekchain_rules.proofs.Seen.{noted_address, last_noted}
use Rattle.seekchain_rules.proofs.Sought.{next_is}
use Rattle.std.proofs.Common.{Ok, Err, Some, None}

unfolds : (live : Bool) (s : List ℕ) (start : ℕ) (heads : Heads) (head : Headed) → length heads.addresses < most_heads
    → heads_from live s start heads head
    ≡ on_outcome (head_of live s head) broken (λ f.
    let own = entries s head.payload.at f in
    let all = with_head heads head own in
    on_next (next_head live s start all.addresses (latest seek_head_id own)) (chained all) broken
    (heads_from live s start all))
unfolding chain
unfolds live s start heads head l =
    let m : most_heads - length heads.addresses ≡ suc (most_heads - (length heads.addresses + 1)) = omega arith in
    rw (m, ← (length-append heads.addresses (head.place.at ∷ []))) refl

pub chain_unfolds : ChainUnfolds
chain_unfolds =
    record { unfolds = unfolds; bounded = λ live s start seen link head q. (next_is live s start seen head link q).few }

-- ---- the loop over the heads

module _ (live : Bool) (s : List ℕ) (wanted : Wanted) (start : ℕ) (first : Headed) where
  abbrev all_heads : Chain
  all_heads = linked_heads live s start first

  abbrev read_so_far : List ℕ → ℕ → List Seek → Heads
  read_so_far seen n es = record { addresses = take n seen; entries = es }

  -- n heads were read, their addresses are the first n of `seen`, and `es` are their entries; `head` is the next.
  pub record Chaining (seen : List ℕ) (n : ℕ) (head : Headed) (parts : Positions) : Type 0 where
    pub es : List Seek
    pub few : n < 64
    pub long : length seen ≡ 64
    pub there : header_at s head.place.at ≡ Ok head
    pub rest : all_heads ≡ chain live s start (64 - n) (read_so_far seen n es) head
    pub are : parts ≡ positions wanted es

  pub chaining_holds : (seen : List ℕ) → length seen ≡ 64 → header_at s first.place.at ≡ Ok first
      → Chaining seen 0 first no_positions
  chaining_holds seen l t = record {
    es = [];
    few = omega arith;
    long = l;
    there = t;
    rest = refl;
    are = sym (positions_none wanted no_positions);
  }

  module _ (seen : List ℕ) (n : ℕ) (head : Headed) (parts : Positions) (g : Chaining seen n head parts) where
    more : 64 - n ≡ suc (63 - n)
    more = omega (arith, g.few)

    pub chaining_lost : (e : Refusal) → Err e ≡ head_told live s wanted parts head
        → Err e ≡ heads_told wanted all_heads
    unfolding chain
    chaining_lost e q =
        let k = told_stopped live s (children s wanted) (children_law s wanted) _ e (head_of live s head) q in
        rw (g.rest, more, k) refl

    -- The addresses, with this head's.
    abbrev pub seen_now : List ℕ
    seen_now = set seen n head.place.at

    seen_long : length seen_now ≡ 64
    seen_long = length-set seen n head.place.at ∙ g.long

    -- This head is the last of them.
    pub chaining_last : head.place.at ≡ last_head (take (n + 1) seen_now)
    chaining_last = last_noted seen n head.place.at (omega (arith, g.few, g.long))

    module _ (found : Seektable) (q : Ok found ≡ head_told live s wanted parts head) where
      -- The head was read, and its own entries are known.
      record Followed : Type 0 where
        own : List Seek
        is :
            all_heads
            ≡ on_next (next_head live s start (take (n + 1) seen_now) found.head)
            (chained (read_so_far seen_now (n + 1) (g.es ++ own))) broken
            (chain live s start (63 - n) (read_so_far seen_now (n + 1) (g.es ++ own)))
        are : found.parts ≡ positions wanted (g.es ++ own)

      follow : (f : Forest) → head_of live s head ≡ done f
          → found ≡ with_entries s wanted head.payload.at f (fresh parts) → Followed
      unfolding chain with_entries
      follow f k e =
          let own = entries s head.payload.at f in
          let a : take n seen ++ (head.place.at ∷ []) ≡ take (n + 1) seen_now
          = sym (noted_address seen n head.place.at (omega (arith, g.few, g.long))) in
          let l : latest seek_head_id own ≡ found.head = sym (ap (λ (t : Seektable). t.head) e) in
          record {
            own = own;
            is = g.rest ∙ rw (more, k, a, l) refl;
            are =
                ap (λ (t : Seektable). t.parts) e ∙ ap (λ (x : Positions). positions_from wanted x own) g.are
                ∙ sym (positions_append wanted no_positions g.es own);
          }

      followed : Followed
      followed =
          let (f, k, e) = told_read live s (children s wanted) (children_law s wanted) _ found (head_of live s head) q in
          follow f k e

      pub chaining_stops : (e : Refusal) → Err e ≡ next_head live s start (take (n + 1) seen_now) found.head
          → Err e ≡ heads_told wanted all_heads
      chaining_stops e k = rw (followed.is, ← k) refl

      pub chaining_ends : (Ok None) ≡ next_head live s start (take (n + 1) seen_now) found.head
          → Ok (record { parts = found.parts; heads = n + 1; last = head.place.at }) ≡ heads_told wanted all_heads
      chaining_ends k =
          let l = length-take-le (n + 1) seen_now (omega (arith, seen_long, g.few)) in
          ap (λ (x : Positions). Ok (record { parts = x; heads = n + 1; last = head.place.at })) followed.are
          ∙ rw (followed.is, ← k, l)
          (ap (λ (x : ℕ). Ok (record { parts = positions wanted (g.es ++ followed.own); heads = n + 1; last = x })) chaining_last)

      pub chaining_on : (next : Headed) → Ok (Some next) ≡ next_head live s start (take (n + 1) seen_now) found.head
          → Chaining seen_now (n + 1) next found.parts
      chaining_on next k =
          let w = followed in
          let i = next_is live s start (take (n + 1) seen_now) next found.head (sym k) in
          let l = length-take-le (n + 1) seen_now (omega (arith, seen_long, g.few)) in
          let m : 63 - n ≡ 64 - (n + 1) = omega arith in
          record {
            es = g.es ++ w.own;
            few = omega (arith, i.few);
            long = seen_long;
            there = i.is.head;
            rest = w.is ∙ rw (← k, m) refl;
            are = w.are;
          }
