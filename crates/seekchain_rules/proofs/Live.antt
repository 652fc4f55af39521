-- The seek heads lead to the same place in both modes where the sizes that are read are known (`HeadsEqual`). Assumes
-- nothing.
use Prim.Native.Nat.{ℕ, zero, suc, ◌+◌}
use mathlib.Core.Path.{◌≡◌, refl, sym, ap, ◌∙◌}
use mathlib.Core.List.{List, [], ◌∷◌, ◌++◌}
use mathlib.Core.Bool.{Bool, true, false, cond}
use native.Mathlib.Omega.{arith}
use lib.ListN.{length}
use lib.Dec.{leb, eqb}
use Rattle.refusals.specs.Refusals.{past_end, invalid_seek_head, stale_entry, head_again, too_many_heads}
use Rattle.refusals.specs.declared.refusal.Refusal.{Refusal}
use Rattle.header.specs.declared.cursor.Headed.{Headed}
use Rattle.kinds.specs.Kinds.{member}
use Rattle.elements_rules.specs.Forest.{Forest}
use Rattle.elements_rules.specs.Reading.{Outcome, done, refused}
use Rattle.elements_rules.specs.Faults.{to_find}
use Rattle.elements_rules.specs.Live.{AllKnown}
use Rattle.elements_rules.proofs.Live.{body_known}
use Rattle.walks_rules.specs.Answers.{on_header}
use Rattle.walks_rules.specs.Step.{on_child}
use Rattle.walks_rules.specs.declared.step.Stretch.TheVariants.{Sized}
use Rattle.walks_rules.proofs.Known.{KnownAt, child_known}
use Rattle.seekhead_rules.specs.Seeks.{segment_id, seek_head_id, head_of, entries}
use Rattle.seekhead_rules.specs.Table.{on_latest, latest}
use Rattle.seekhead_rules.specs.declared.seek.Seek.{Seek}
use Rattle.seekchain_rules.specs.Answers.{on_outcome}
use Rattle.seekchain_rules.specs.Heads.{Heads, no_heads, with_head, Chain, chained, broken, most_heads, too_far}
use Rattle.seekchain_rules.specs.Heads.{last_head, sought, next_head, on_next, chain, linked_heads}
use Rattle.seekchain_rules.specs.Lookup.{Lookup, found, absent, stopped, on_chain, part_at, by_heads}
use Rattle.seekchain_rules.specs.Faults.{Followed, ReadNext, initial, linked, HeadsCome, in_head, to_head, to_part}
use Rattle.seekchain_rules.specs.Live.{HeadsEqual}
use Rattle.seekchain_rules.proofs.Faults.{read_on, Ends, Came, chain_came}
use Rattle.std.proofs.Common.{Result, Option, Ok, Err, Some, None}

sought_known : (s : List ℕ) (address id : ℕ) → KnownAt s address → sought true s address id ≡ sought false s address id
unfolding sought
sought_known s address id k =
    ap (λ (x : Result (Option Headed) Refusal). on_child x (Err (past_end address)) Err (λ y.
    cond (eqb y.header.id id) (Ok y) (Err (stale_entry address))))
    (child_known s (Sized (length s)) address (λ p. k))

module _ (s : List ℕ) (wanted start : ℕ) (first : Headed) (k : AllKnown s (HeadsCome false s wanted start first)) where
  head_known : (heads : Heads) (head : Headed) → ReadNext false s start first heads head
      → head_of true s head ≡ head_of false s head
  head_known heads head n =
      body_known s false 0 0 segment_id head.payload.at head.header.size 0 (omega arith)
      (λ a x h c r q. k a x h (in_head heads head a x n c) r q)

  next_known : (heads : Heads) (own : List Seek) → Followed false s start first heads own
      → next_head true s start heads.addresses (latest seek_head_id own)
      ≡ next_head false s start heads.addresses (latest seek_head_id own)
  unfolding next_head
  next_known heads own p = by_link_law (latest seek_head_id own) refl
    where
      by_tests : (position : ℕ) → latest seek_head_id own ≡ Some position
          → (b : Bool) → too_far start position ≡ b → (c : Bool) → member (start + position) heads.addresses ≡ c
          → (d : Bool) → leb most_heads (length heads.addresses) ≡ d
          → cond b (Err (invalid_seek_head seek_head_id (last_head heads.addresses)))
          (cond c (Err (head_again (start + position)))
          (cond d (Err (too_many_heads (start + position)))
          (on_header (sought true s (start + position) seek_head_id) Err (λ x. Ok (Some x)))))
          ≡ cond b (Err (invalid_seek_head seek_head_id (last_head heads.addresses)))
          (cond c (Err (head_again (start + position)))
          (cond d (Err (too_many_heads (start + position)))
          (on_header (sought false s (start + position) seek_head_id) Err (λ x. Ok (Some x)))))
      by_tests position e true f c m d n = refl
      by_tests position e false f true m d n = refl
      by_tests position e false f false m true n = refl
      by_tests position e false f false m false n =
          ap (λ (x : Result Headed Refusal). on_header x Err (λ x. Ok (Some x)))
          (sought_known s (start + position) seek_head_id (λ h q.
          k (start + position) (to_find false seek_head_id) h (to_head heads own position p e f m n) refl q))

      by_link_law : (link : Option ℕ) → latest seek_head_id own ≡ link
          → next_head true s start heads.addresses link ≡ next_head false s start heads.addresses link
      by_link_law None e = refl
      by_link_law (Some position) e =
          by_tests position e (too_far start position) refl (member (start + position) heads.addresses) refl
          (leb most_heads (length heads.addresses)) refl

  pub chain_known : (left : ℕ) (heads : Heads) (head : Headed) → ReadNext false s start first heads head
      → chain true s start left heads head ≡ chain false s start left heads head
  unfolding chain
  chain_known zero heads head n = refl
  chain_known (suc left) heads head n =
      ap (λ (o : Outcome). on_outcome o broken (λ f. on true (own f) (with_head heads head (own f))))
      (head_known heads head n)
      ∙ by (head_of false s head) refl (chain_known left)
    where
      own : Forest → List Seek
      own f = entries s head.payload.at f

      on : Bool → List Seek → Heads → Chain
      on live es all =
          on_next (next_head live s start all.addresses (latest seek_head_id es)) (chained all) broken
          (chain live s start left all)

      Onward : Type 0
      Onward = (all : Heads) (next : Headed) → ReadNext false s start first all next
          → chain true s start left all next ≡ chain false s start left all next

      by_next : (f : Forest) → head_of false s head ≡ done f → Onward → (x : Result (Option Headed) Refusal)
          → next_head false s start (with_head heads head (own f)).addresses (latest seek_head_id (own f)) ≡ x
          → on_next x (chained (with_head heads head (own f))) broken
          (chain true s start left (with_head heads head (own f)))
          ≡ on_next x (chained (with_head heads head (own f))) broken
          (chain false s start left (with_head heads head (own f)))
      by_next f q more (Ok (Some next)) w =
          let all = with_head heads head (own f) in
          more all next (linked all (own f) next (read_on false s wanted start first heads head f n q) w)
      by_next f q more (Ok None) w = refl
      by_next f q more (Err e) w = refl

      by : (o : Outcome) → head_of false s head ≡ o → Onward
          → on_outcome o broken (λ f. on true (own f) (with_head heads head (own f)))
          ≡ on_outcome o broken (λ f. on false (own f) (with_head heads head (own f)))
      by (refused e) q more = refl
      by (done f) q more =
          let all = with_head heads head (own f) in
          ap (λ (x : Result (Option Headed) Refusal). on_next x (chained all) broken (chain true s start left all))
          (next_known all (own f) (read_on false s wanted start first heads head f n q))
          ∙ by_next f q more (next_head false s start all.addresses (latest seek_head_id (own f))) refl

  pub part_known : (heads : Heads) → Ends false s wanted start first heads
      → part_at true s wanted start heads.addresses (latest wanted heads.entries)
      ≡ part_at false s wanted start heads.addresses (latest wanted heads.entries)
  unfolding part_at
  part_known heads g = by_link_law (latest wanted heads.entries) refl
    where
      by_far : (position : ℕ) → latest wanted heads.entries ≡ Some position → (b : Bool) → too_far start position ≡ b
          → cond b (stopped (invalid_seek_head wanted (last_head heads.addresses)))
          (on_header (sought true s (start + position) wanted) stopped (λ part. found part heads.addresses))
          ≡ cond b (stopped (invalid_seek_head wanted (last_head heads.addresses)))
          (on_header (sought false s (start + position) wanted) stopped (λ part. found part heads.addresses))
      by_far position e true f = refl
      by_far position e false f =
          ap (λ (x : Result Headed Refusal). on_header x stopped (λ part. found part heads.addresses))
          (sought_known s (start + position) wanted (λ h q.
          k (start + position) (to_find false wanted) h
          (to_part heads g.own position g.followed g.none e f) refl q))

      by_link_law : (link : Option ℕ) → latest wanted heads.entries ≡ link
          → part_at true s wanted start heads.addresses link ≡ part_at false s wanted start heads.addresses link
      by_link_law None e = refl
      by_link_law (Some position) e = by_far position e (too_far start position) refl

pub heads_equal : HeadsEqual
unfolding by_heads
heads_equal s wanted start first k =
    ap (λ (c : Chain). on_chain c (λ heads.
    part_at true s wanted start heads.addresses (latest wanted heads.entries)))
    (chain_known s wanted start first k most_heads no_heads first initial)
    ∙ by (linked_heads false s start first) (chain_came false s wanted start first most_heads no_heads first initial refl)
  where
    by : (c : Chain) → Came false s wanted start first c
        → on_chain c (λ heads. part_at true s wanted start heads.addresses (latest wanted heads.entries))
        ≡ on_chain c (λ heads. part_at false s wanted start heads.addresses (latest wanted heads.entries))
    by (chained heads) g = part_known s wanted start first k heads g
    by (broken e) g = refl
