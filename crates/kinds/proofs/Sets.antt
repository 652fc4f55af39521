-- The list is sorted, has no id twice, and its sets have document 01's sizes. Assumes nothing.
use mathlib.Core.Path.{refl, sym}
use mathlib.Core.Logic.{⊎_elim}
use native.Mathlib.Nat.{eq-or-lt_of_le}
use native.Mathlib.Omega.{arith}
use lib.Dec.{T}
use Rattle.kinds.specs.Elements.{elements}
use Rattle.kinds.specs.Theorems.{ids, count, Sorted, NoneTwice, Sizes}
use Rattle.kinds.proofs.Order.{rises, ordered, lt_or_le}

-- The order of the list, by one computed test.
sorted : T (rises 0 (ids elements))
unfolding elements
sorted = tt

pub list_sorted : Sorted
list_sorted = ordered 0 (ids elements) sorted

pub list_none_twice : NoneTwice
list_none_twice i j hi hj e =
    ⊎_elim
    (λ l. absurd (omega (arith, list_sorted i j l hj)))
    (λ g. ⊎_elim (λ q. sym q) (λ l. absurd (omega (arith, list_sorted j i l hi))) (eq-or-lt_of_le g))
    (lt_or_le i j)

pub list_sizes : Sizes
unfolding elements count
list_sizes = (refl, refl, refl, refl, refl, refl, refl, refl, refl)
