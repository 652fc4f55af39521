-- Values one after another. Assumes nothing.
use Prim.Native.Nat.{ℕ}
use mathlib.Core.Path.{◌≡◌, ap}
use mathlib.Core.List.{List, ◌∷◌}
use lib.ListN.{drop, get_or}
use Rattle.fields_rules.specs.Values.{FieldValue, unset}

pub then : {a b : FieldValue} {l m : List FieldValue} → a ≡ b → l ≡ m → a ∷ l ≡ b ∷ m
then {a} {b} {l} {m} p q = rw (p, q)

-- And one by its number; those behind it.
pub told_at : {l m : List FieldValue} (k : ℕ) → l ≡ m → get_or l k unset ≡ get_or m k unset
told_at k q = ap (λ (x : List FieldValue). get_or x k unset) q

pub told_from : {l m : List FieldValue} (k : ℕ) → l ≡ m → drop k l ≡ drop k m
told_from k q = ap (drop k) q
