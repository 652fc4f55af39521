-- The latest position of an id, and the id of a Seek. Assumes nothing.
use Prim.Native.Nat.{ℕ, zero, suc, ◌+◌, ◌-◌, ◌≤◌, min}
use mathlib.Core.Path.{◌≡◌, refl, sym, ap, ◌∙◌}
use mathlib.Core.List.{List, [], ◌∷◌, ◌++◌}
use native.Mathlib.Nat.{sub-zero}
use native.Mathlib.Omega.{arith}
use lib.ListN.{take, drop}
use lib.Seq.{take-nil, drop-drop}
use borrow.Author.Tests.{eq-eqb, ne_eqb}
use Rattle.header.specs.Vint.{big_endian}
use Rattle.seekhead_rules.specs.Seeks.{last_four}
use Rattle.seekhead_rules.specs.Table.{later, latest_from, positions_from}
use Rattle.seekhead_rules.specs.Theorems.{latest_each, PositionsEach}
use Rattle.seekhead_rules.specs.declared.seek.Seek.{Seek}
use Rattle.seekhead_rules.specs.declared.head.Wanted.{Wanted}
use Rattle.seekhead_rules.specs.declared.head.Positions.{Positions}
use Rattle.std.proofs.Common.{Option, Some}

-- ---- the last entry of an id wins

module _ (id : ℕ) (old : Option ℕ) (seek : Seek) where
  pub later_same : seek.id ≡ id → Some seek.position ≡ later id old seek
  unfolding later
  later_same q = rw (eq-eqb seek.id id q) refl

  pub later_other : (seek.id ≡ id → ⊥) → old ≡ later id old seek
  unfolding later
  later_other q = rw (ne_eqb seek.id id q) refl

-- ---- more entries after others

pub latest_append : (id : ℕ) (old : Option ℕ) (es fs : List Seek)
    → latest_from id old (es ++ fs) ≡ latest_from id (latest_from id old es) fs
unfolding latest_from
latest_append id old [] fs = refl
latest_append id old (e ∷ es) fs = latest_append id (later id old e) es fs

module _ (wanted : Wanted) where
  pub positions_append : (old : Positions) (es fs : List Seek)
      → positions_from wanted old (es ++ fs) ≡ positions_from wanted (positions_from wanted old es) fs
  unfolding positions_from
  positions_append old es fs =
      rw (
        latest_append wanted.first old.first es fs,
        latest_append wanted.second old.second es fs,
        latest_append wanted.third old.third es fs,
        latest_append wanted.fourth old.fourth es fs,
        latest_append wanted.fifth old.fifth es fs,
      )

  pub positions_none : (old : Positions) → positions_from wanted old [] ≡ old
  unfolding positions_from latest_from
  positions_none old = refl

pub positions_each : PositionsEach
unfolding positions_from latest_each
positions_each wanted seeks = refl

-- ---- the id of a Seek

-- The smaller of a number and 4.
pub few : (n m : ℕ) → m ≡ min n 4 → (m ≤ n) × (m ≤ 4) × (m ≡ n - (n - 4))
few n m q = omega arith

drop_take : (k n : ℕ) (l : List ℕ) → drop k (take n l) ≡ take (n - k) (drop k l)
drop_take zero n l = rw (sub-zero n)
drop_take (suc k) zero l = let e : 0 - suc k ≡ 0 = omega arith in rw e
drop_take (suc k) (suc n) [] = sym (take-nil (suc n - suc k))
drop_take (suc k) (suc n) (x ∷ l) = drop_take k n l ∙ (let e : suc n - suc k ≡ n - k = omega arith in rw e)

pub last_octets : (s : List ℕ) (at n : ℕ)
    → big_endian (take (min n 4) (drop (at + (n - min n 4)) s)) ≡ last_four s at n
unfolding last_four
last_octets s at n =
    let w = few n (min n 4) refl in
    let a : n - (n - 4) ≡ min n 4 = omega arith in
    let b : at + (n - 4) ≡ at + (n - min n 4) = omega arith in
    sym (ap big_endian (drop_take (n - 4) n (drop at s) ∙ rw (drop-drop (n - 4) at s, a, b) refl))
