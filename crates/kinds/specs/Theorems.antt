-- What is proved of the definitions beside the contracts: the statements of the theorems.
use Rattle.std.specs.Prelude.{ℕ, suc, ◌<◌, ◌≡◌, List, [], ◌∷◌, cond, length, get_or, eqb}
use Rattle.kinds.specs.Elements.{Row, row, elements}
use Rattle.kinds.specs.Kinds.{number_of}
use Rattle.kinds.specs.Promise.{KindPromise}
use Rattle.kinds.specs.declared.kind.Kind.{Kind}
use Rattle.kinds.specs.declared.kind.Kind.TheVariants.{Master, Int, Uint, String, Utf8, Binary, Float, Date}

-- Any two replies that the promise permits to one question are equal (document 01, Strength of the promises).
abbrev pub OneReply : Type 0
OneReply = (id parent : ℕ) (r r' : Kind) → KindPromise id parent r → KindPromise id parent r' → r ≡ r'

abbrev pub ids : List Row → List ℕ
ids [] = []
ids (row id kind ∷ rows) = id ∷ ids rows

-- The list is sorted, so no id stands in it twice.
abbrev pub Sorted : Type 0
Sorted = (i j : ℕ) → i < j → j < length (ids elements) → get_or (ids elements) i 0 < get_or (ids elements) j 0

abbrev pub NoneTwice : Type 0
NoneTwice =
    (i j : ℕ) → i < length (ids elements) → j < length (ids elements)
    → get_or (ids elements) i 0 ≡ get_or (ids elements) j 0 → i ≡ j

-- How many ids of a kind the rows have.
unfoldable pub count : Kind → List Row → ℕ
count k [] = 0
count k (row id kind ∷ rows) = cond (eqb (number_of kind) (number_of k)) (suc (count k rows)) (count k rows)

-- The sizes of the sets, and of the whole list.
abbrev pub Sizes : Type 0
Sizes =
    (count Master elements ≡ 49)
    × (count Int elements ≡ 4)
    × (count Uint elements ≡ 122)
    × (count String elements ≡ 13)
    × (count Utf8 elements ≡ 15)
    × (count Binary elements ≡ 33)
    × (count Float elements ≡ 16)
    × (count Date elements ≡ 1)
    × (length (ids elements) ≡ 253)
