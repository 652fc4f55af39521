-- The useless readers are shut out: one that makes up how many heads were read, and one that leaves the table as it
-- was. Assumes nothing.
use Prim.Native.Nat.{ℕ}
use mathlib.Core.Path.{◌≡◌, refl, ap, ◌∙◌}
use mathlib.Core.Bool.{Bool, true, false}
use native.Mathlib.Omega.{arith}
use lib.ListN.{length}
use Rattle.header.specs.Vint.{octet_bits, bits, one_more, width_of, big_endian_from, big_endian, of_width, vint_of}
use Rattle.header.specs.Header.{sized, named, header_of}
use Rattle.header.specs.Reads.{header_read, header_at}
use Rattle.refusals.specs.Reply.{accepted}
use Rattle.refusals.specs.declared.refusal.Refusal.{Refusal}
use Rattle.elements_rules.specs.Forest.{count}
use Rattle.elements_rules.specs.Reading.{siblings, master_body}
use Rattle.elements_rules.specs.Promise.{is_table, allowed, filled, zeros}
use Rattle.seekhead_rules.specs.Seeks.{entries}
use Rattle.seekhead_rules.specs.Table.{latest_from}
use Rattle.seekchain_rules.specs.Heads.{next_head, chain}
use Rattle.seekchain_rules.specs.Lookup.{part_at, by_heads}
use Rattle.walks_rules.specs.Step.{is_past, ended_by, barred_step, child_at}
use Rattle.sizes.specs.Unknown.{unknown}
use Rattle.walks_rules.specs.Walk.{walk}
use Rattle.walks_rules.specs.Endings.{pass_over}
use Rattle.segments_rules.specs.Segment.{segment_of, stretch_of, overruns, visit, segment_children, lookup_of}
use Rattle.search_rules.specs.Part.{parent_of, Search, found, absent, refused, search_of, reply_of, table_of}
use Rattle.search_rules.specs.Part.{found_part, absent_part, part_told}
use Rattle.search_rules.specs.Theorems.{tags_alone, tags_behind_a_head, NotMadeUp, NotUntouched}
use Rattle.std.proofs.Common.{Result, Option, Ok, Err, Some, None}
use Rattle.search_rules.specs.declared.part.Part.{Part}

-- ---- two recordings, computed

unfoldable alone : Type 0
alone = (live : Bool) → reply_of (search_of live tags_alone 0x1254C367 0) ≡ accepted (found_part 10 0 0 0)

unfoldable behind : Type 0
behind = (live : Bool) → reply_of (search_of live tags_behind_a_head 0x1254C367 0) ≡ accepted (absent_part 1)

is_alone : alone
unfolding alone octet_bits bits one_more width_of big_endian_from big_endian of_width vint_of sized named header_of
    header_read header_at count siblings master_body is_table allowed filled
    is_past ended_by barred_step child_at walk pass_over unknown segment_of stretch_of overruns visit segment_children lookup_of
    parent_of search_of
is_alone true = refl
is_alone false = refl

is_behind : behind
unfolding behind octet_bits bits one_more width_of big_endian_from big_endian of_width vint_of sized named header_of
    header_read header_at count siblings master_body is_table allowed filled entries latest_from next_head chain part_at
    by_heads is_past ended_by barred_step child_at walk pass_over unknown segment_of stretch_of overruns visit segment_children
    lookup_of parent_of search_of
is_behind true = refl
is_behind false = refl

one_found : (r : Result (Option Part × ℕ) Refusal) → part_told r ≡ accepted (found_part 10 0 0 0) → r ≡ Ok (Some (record { at = 10; size = 0; rows = 0 }), 0)
one_found (Ok (Some p, heads)) q =
    let a : p.at ≡ 10 = cc in
    let b : p.size ≡ 0 = cc in
    let c : p.rows ≡ 0 = cc in
    let d : heads ≡ 0 = cc in
    λ i. Ok (Some (record { at = a i; size = b i; rows = c i }), d i)
one_found (Ok (None, heads)) q = let z : ◌≡◌ {A = ℕ} 0 1 = cc in absurd (omega arith)
one_found (Err e) q = let z : ◌≡◌ {A = ℕ} 0 1 = cc in absurd (omega arith)

none_found : (r : Result (Option Part × ℕ) Refusal) → part_told r ≡ accepted (absent_part 1) → r ≡ Ok (None, 1)
none_found (Ok (Some p, heads)) q = let z : ◌≡◌ {A = ℕ} 0 1 = cc in absurd (omega arith)
none_found (Ok (None, heads)) q = cc
none_found (Err e) q = let z : ◌≡◌ {A = ℕ} 0 1 = cc in absurd (omega arith)

pub not_made_up : NotMadeUp
unfolding alone behind
not_made_up live t u r r' t' u' l m p q =
    let a = ap (λ (n : ℕ). reply_of (search_of live tags_alone 0x1254C367 n)) l in
    let b = ap (λ (n : ℕ). reply_of (search_of live tags_behind_a_head 0x1254C367 n)) m in
    (one_found r (p.reply ∙ a ∙ is_alone live), none_found r' (q.reply ∙ b ∙ is_behind live))

-- ---- the table

zeros_absent : (numbers n : ℕ) (x : Search) → part_told (Ok (None, n)) ≡ reply_of x → table_of numbers x ≡ zeros numbers
unfolding table_of
zeros_absent numbers n (found at size heads f) q = let z : ◌≡◌ {A = ℕ} 0 1 = cc in absurd (omega arith)
zeros_absent numbers n (absent heads) q = refl
zeros_absent numbers n (refused e) q = refl

zeros_refused : (numbers : ℕ) (e : Refusal) (x : Search) → part_told (Err e) ≡ reply_of x
    → table_of numbers x ≡ zeros numbers
unfolding table_of
zeros_refused numbers e (found at size heads f) q = let z : ◌≡◌ {A = ℕ} 0 1 = cc in absurd (omega arith)
zeros_refused numbers e (absent heads) q = refl
zeros_refused numbers e (refused e') q = refl

pub not_untouched : NotUntouched
not_untouched live s part t t' = (
  (λ n p. p.table ∙ zeros_absent (length t) n (search_of live s part (length t)) p.reply),
  (λ e p. p.table ∙ zeros_refused (length t) e (search_of live s part (length t)) p.reply),
)
