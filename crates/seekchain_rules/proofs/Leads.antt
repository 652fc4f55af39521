-- What the heads lead to is what their entries name, and the heads are seek heads at different addresses, at most 64.
-- Assumes nothing.
use Prim.Native.Nat.{ℕ, zero, suc, ◌+◌, ◌≤◌}
use mathlib.Core.Path.{◌≡◌, refl, sym}
use mathlib.Core.List.{List, [], ◌∷◌, ◌++◌}
use mathlib.Core.Bool.{Bool, true, false, cond, ◌||◌}
use native.Mathlib.Omega.{arith}
use lib.ListN.{length, length-append}
use lib.Dec.{eqb}
use borrow.Author.Tests.{eqb-false}
use Rattle.refusals.specs.Refusals.{invalid_seek_head}
use Rattle.header.specs.declared.cursor.Headed.{Headed}
use Rattle.elements_rules.specs.Forest.{Forest}
use Rattle.elements_rules.specs.Reading.{Outcome, done, refused}
use Rattle.kinds.specs.Kinds.{member}
use Rattle.seekhead_rules.specs.Seeks.{seek_head_id, head_of, entries}
use Rattle.seekhead_rules.specs.Table.{latest}
use Rattle.walks_rules.specs.Answers.{on_header}
use Rattle.seekchain_rules.specs.Answers.{on_outcome}
use Rattle.seekchain_rules.specs.Heads.{Heads, no_heads, with_head, Chain, chained, broken, most_heads, next_head}
use Rattle.seekchain_rules.specs.Heads.{too_far, last_head, sought, on_next, chain, linked_heads}
use Rattle.seekchain_rules.specs.Lookup.{found, stopped, on_chain, part_at, by_heads}
use Rattle.seekchain_rules.specs.Theorems.{IsAt, IsHead, AreHeads, NotAmong, Distinct, GoodHeads, ByHeads}
use Rattle.seekchain_rules.specs.Theorems.{HeadsLead}
use Rattle.seekchain_rules.proofs.Sought.{sought_is, next_is}
use Rattle.std.proofs.Common.{Result, Option, Ok, Err, Some, None}
use Rattle.refusals.specs.declared.refusal.Refusal.{Refusal}

-- ---- one address more

-- What the test for an address says.
not_among : (x : ℕ) (ys : List ℕ) → member x ys ≡ false → NotAmong x ys
unfolding member NotAmong
not_among x [] m = tt
not_among x (y ∷ ys) m = go (eqb x y) refl m (not_among x ys)
  where
    go : (b : Bool) → eqb x y ≡ b → (b || member x ys) ≡ false → (member x ys ≡ false → NotAmong x ys)
        → (x ≡ y → ⊥) × NotAmong x ys
    go true e q k = let z : ◌≡◌ {A = ℕ} 0 1 = cc in absurd (let w : ⊥ = omega arith in w)
    go false e q k = (eqb-false x y e, k q)

among_append : (x y : ℕ) (ys : List ℕ) → NotAmong x ys → (x ≡ y → ⊥) → NotAmong x (ys ++ (y ∷ []))
unfolding NotAmong
among_append x y [] m e = (e, tt)
among_append x y (z ∷ zs) m e = (m.0, among_append x y zs m.1 e)

distinct_append : (ys : List ℕ) (y : ℕ) → Distinct ys → NotAmong y ys → Distinct (ys ++ (y ∷ []))
unfolding Distinct NotAmong
distinct_append [] y d m = (tt, tt)
distinct_append (z ∷ zs) y d m =
    (among_append z y zs d.0 (λ e. m.0 (sym e)), distinct_append zs y d.1 m.1)

heads_append : (live : Bool) (s ys : List ℕ) (y : ℕ) → AreHeads live s ys → IsHead live s y
    → AreHeads live s (ys ++ (y ∷ []))
unfolding AreHeads
heads_append live s [] y a h = (h, tt)
heads_append live s (z ∷ zs) y a h = (a.0, heads_append live s zs y a.1 h)

-- ---- the chain

-- A head that may be read: it is one, at another address than those before, and there are fewer than 64.
record Ahead (live : Bool) (s seen : List ℕ) (head : Headed) : Type 0 where
  good : GoodHeads live s seen
  is : IsAt s seek_head_id head.place.at head
  new : NotAmong head.place.at seen
  few : suc (length seen) ≤ most_heads

one_more : (live : Bool) (s seen : List ℕ) (head : Headed) (f : Forest) → Ahead live s seen head
    → head_of live s head ≡ done f
    → GoodHeads live s (seen ++ (head.place.at ∷ []))
one_more live s seen head f a q = record {
  are = heads_append live s seen head.place.at a.good.are
      (record { element = head; is = a.is; elements = f; read = q });
  distinct = distinct_append seen head.place.at a.good.distinct a.new;
  few = let l = length-append seen (head.place.at ∷ []) in omega (arith, a.few);
}

abbrev Sound : (live : Bool) → List ℕ → Chain → Type 0
Sound live s (chained heads) = GoodHeads live s heads.addresses
Sound live s (broken e) = Unit

chain_sound : (live : Bool) (s : List ℕ) (start more : ℕ) (heads : Heads) (head : Headed)
    → Ahead live s heads.addresses head
    → Sound live s (chain live s start more heads head)
unfolding chain
chain_sound live s start zero heads head a = tt
chain_sound live s start (suc more) heads head a = go (head_of live s head) refl (chain_sound live s start more)
  where
    Onward : Type 0
    Onward = (all : Heads) (next : Headed) → Ahead live s all.addresses next
        → Sound live s (chain live s start more all next)

    by_next : Onward → (all : Heads) → GoodHeads live s all.addresses → (link : Option ℕ)
        → (x : Result (Option Headed) Refusal) → next_head live s start all.addresses link ≡ x
        → Sound live s (on_next x (chained all) broken (chain live s start more all))
    by_next k all g link (Ok (Some next)) q =
        let i = next_is live s start all.addresses next link q in
        k all next (record { good = g; is = i.is; new = not_among _ _ i.new; few = omega (arith, i.few) })
    by_next k all g link (Ok None) q = g
    by_next k all g link (Err e) q = tt

    go : (o : Outcome) → head_of live s head ≡ o → Onward
        → Sound live s (on_outcome o broken (λ f.
        on_next (next_head live s start (heads.addresses ++ (head.place.at ∷ []))
        (latest seek_head_id (entries s head.payload.at f)))
        (chained (with_head heads head (entries s head.payload.at f))) broken
        (chain live s start more (with_head heads head (entries s head.payload.at f)))))
    go (done f) q k =
        by_next k (with_head heads head (entries s head.payload.at f))
        (one_more live s heads.addresses head f a q)
        (latest seek_head_id (entries s head.payload.at f)) _ refl
    go (refused e) q k = tt

-- ---- the part

module _ (live : Bool) (s : List ℕ) (wanted start : ℕ) (first : Headed) (heads : Heads)
    (c : linked_heads live s start first ≡ chained heads) (g : GoodHeads live s heads.addresses) where
  by_header_law : (position : ℕ) → latest wanted heads.entries ≡ Some position
      → (x : Result Headed Refusal) → sought live s (start + position) wanted ≡ x
      → ByHeads live s wanted start first (on_header x stopped (λ part. found part heads.addresses))
  by_header_law position l (Ok part) q = (
    record {
      entries = heads.entries;
      position = position;
      read = c;
      last = l;
      is = sought_is live s (start + position) wanted part q;
    },
    g,
  )
  by_header_law position l (Err e) q = tt

  by_far : (position : ℕ) → latest wanted heads.entries ≡ Some position → (b : Bool)
      → ByHeads live s wanted start first
      (cond b (stopped (invalid_seek_head wanted (last_head heads.addresses)))
      (on_header (sought live s (start + position) wanted) stopped (λ part. found part heads.addresses)))
  by_far position l true = tt
  by_far position l false = by_header_law position l (sought live s (start + position) wanted) refl

  by_latest : (l : Option ℕ) → latest wanted heads.entries ≡ l
      → ByHeads live s wanted start first (part_at live s wanted start heads.addresses l)
  unfolding part_at
  by_latest None l = (record { entries = heads.entries; read = c; never = l }, g)
  by_latest (Some position) l = by_far position l (too_far start position)

pub heads_lead : HeadsLead
unfolding by_heads AreHeads Distinct NotAmong
heads_lead live s wanted start first st =
    go (linked_heads live s start first) refl (chain_sound live s start most_heads no_heads first ahead)
  where
    ahead : Ahead live s [] first
    ahead = record {
      good = record { are = tt; distinct = tt; few = omega arith };
      is = st;
      new = tt;
      few = omega arith;
    }

    go : (c : Chain) → linked_heads live s start first ≡ c → Sound live s c
        → ByHeads live s wanted start first
        (on_chain c (λ heads. part_at live s wanted start heads.addresses (latest wanted heads.entries)))
    go (chained heads) c g = by_latest live s wanted start first heads c g (latest wanted heads.entries) refl
    go (broken e) c g = tt
