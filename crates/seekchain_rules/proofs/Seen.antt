-- How `member` goes along the addresses that were noted, and which is the last. Assumes nothing.
use Prim.Native.Nat.{ℕ, ◌+◌, ◌≤◌, ◌<◌}
use mathlib.Core.Path.{◌≡◌, refl, sym}
use mathlib.Core.List.{List, [], ◌∷◌, ◌++◌}
use mathlib.Core.Bool.{Bool, true, false}
use native.Mathlib.Numerals.{add-one}
use lib.ListN.{length, take, drop, set, get_or, drop_of_length-le}
use lib.Seq.{drop-cons, take-suc-set}
use lib.Dec.{eqb}
use borrow.Author.Tests.{eq-eqb, ne_eqb, eqb-true, eqb-false}
use Rattle.std.specs.List.{list_any}
use Rattle.kinds.specs.Kinds.{member}
use Rattle.seekchain_rules.specs.Heads.{last_head}

turned : (y x : ℕ) → eqb y x ≡ eqb x y
turned y x = by (eqb x y) refl
  where
    by : (b : Bool) → eqb x y ≡ b → eqb y x ≡ b
    by true e = eq-eqb y x (sym (eqb-true x y e))
    by false e = ne_eqb y x (λ q. eqb-false x y e (sym q))

-- The library's search of a list and the definition's are one.
pub any_member : (x : ℕ) (ys : List ℕ) → list_any (λ (y : ℕ). eqb y x) ys ≡ member x ys
unfolding member
any_member x [] = refl
any_member x (y ∷ ys) = rw (any_member x ys, turned y x) refl

-- The address that is noted comes after those before.
pub noted_address : (l : List ℕ) (n x : ℕ) → n < length l → take (n + 1) (set l n x) ≡ take n l ++ (x ∷ [])
noted_address l n x h = rw (add-one n, take-suc-set l n x h)

-- The last of addresses is the one that was joined last.
pub last_joined : (l : List ℕ) (x : ℕ) → last_head (l ++ (x ∷ [])) ≡ x
unfolding last_head
last_joined [] x = refl
last_joined (a ∷ []) x = refl
last_joined (a ∷ b ∷ rest) x = last_joined (b ∷ rest) x

pub last_noted : (l : List ℕ) (n x : ℕ) → n < length l → x ≡ last_head (take (n + 1) (set l n x))
last_noted l n x h = rw (noted_address l n x h, last_joined (take n l) x) refl
