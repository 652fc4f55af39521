-- The lookup of the wanted id when all heads were read. Assumes nothing.
use Prim.Native.Nat.{ℕ}
use mathlib.Core.Path.{◌≡◌, sym, ap, ◌∙◌}
use mathlib.Core.List.{List}
use mathlib.Core.Bool.{Bool}
use native.Mathlib.Omega.{arith}
use lib.ListN.{length}
use Rattle.refusals.specs.declared.refusal.Refusal.{Refusal}
use Rattle.header.specs.declared.cursor.Headed.{Headed}
use Rattle.seekhead_rules.specs.Table.{latest, only, positions_from, positions}
use Rattle.seekhead_rules.specs.declared.head.Positions.{Positions}
use Rattle.seekchain_rules.specs.Heads.{Chain, chained, broken, last_head, linked_heads}
use Rattle.seekchain_rules.specs.Lookup.{on_chain, part_at, by_heads}
use Rattle.seekchain_rules.specs.Contract.{heads_told, place_told, PartMet}
use Rattle.seekchain_rules.specs.declared.heads.HeadsRead.{HeadsRead}
use Rattle.std.proofs.Common.{Result, Option, Ok, Err}

module _ (live : Bool) (s : List ℕ) (wanted start : ℕ) (first : Headed) where
  abbrev looked_up : Chain → Result (Option Headed × ℕ) Refusal
  looked_up c =
      place_told (on_chain c (λ heads. part_at live s wanted start heads.addresses (latest wanted heads.entries)))

  broken_off : (c : Chain) (e : Refusal) → Err e ≡ heads_told (only wanted) c → Err e ≡ looked_up c
  broken_off (chained heads) e q = let z : ◌≡◌ {A = ℕ} 0 1 = cc in absurd (omega arith)
  broken_off (broken e') e q = cc

  pub chain_broken : (e : Refusal) → Err e ≡ heads_told (only wanted) (linked_heads live s start first)
      → Err e ≡ place_told (by_heads live s wanted start first)
  unfolding by_heads
  chain_broken e q = broken_off (linked_heads live s start first) e q

  -- The position of the one wanted id is its latest.
  read_off : (c : Chain) (h : HeadsRead) → Ok h ≡ heads_told (only wanted) c
      → (r : Result (Option Headed × ℕ) Refusal) → PartMet live s wanted start h.heads h.last h.parts.first r
      → r ≡ looked_up c
  unfolding positions_from
  read_off (chained heads) h q r m =
      let e : h ≡ record {
        parts = positions (only wanted) heads.entries;
        heads = length heads.addresses;
        last = last_head heads.addresses;
      } = cc in
      let f : h.parts.first ≡ latest wanted heads.entries = ap (λ (x : HeadsRead). x.parts.first) e in
      m heads.addresses (sym (ap (λ (x : HeadsRead). x.heads) e)) (sym (ap (λ (x : HeadsRead). x.last) e))
      ∙ ap (λ x. place_told (part_at live s wanted start heads.addresses x)) f
  read_off (broken e) h q r m = let z : ◌≡◌ {A = ℕ} 0 1 = cc in absurd (omega arith)

  pub chain_read : (h : HeadsRead) → Ok h ≡ heads_told (only wanted) (linked_heads live s start first)
      → (r : Result (Option Headed × ℕ) Refusal) → PartMet live s wanted start h.heads h.last h.parts.first r
      → r ≡ place_told (by_heads live s wanted start first)
  unfolding by_heads
  chain_read h q r m = read_off (linked_heads live s start first) h q r m
