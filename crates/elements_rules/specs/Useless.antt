-- The useless readers of the table that document 01 shuts out (Strength of the promises), each by a theorem about the
-- promise of `read`.
use Rattle.std.specs.Prelude.{ℕ, ◌*◌, ◌≤◌, ◌≡◌, List, [], ◌∷◌, Bool, length, get_or}
use Rattle.refusals.specs.declared.refusal.Refusal.{Refusal}
use Rattle.elements_rules.specs.Rows.{width}
use Rattle.elements_rules.specs.Promise.{zeros, ReadPromise}
use Rattle.std.specs.Prelude.{Result, Ok, Err}

-- P1's bytes, an empty TrackEntry, and an empty BlockGroup beside it.
abbrev pub track_entry : List ℕ
track_entry = 0xAE ∷ 0x80 ∷ []

abbrev pub block_group : List ℕ
block_group = 0xA0 ∷ 0x80 ∷ []

-- Not one that refuses everything: these bytes are accepted, as one row with their own numbers, and the second row of
-- the table is zeros.
abbrev pub NotAllRefused : Type 0
NotAllRefused =
    (live : Bool) (t : List ℕ) (r : Result ℕ Refusal) (t' : List ℕ) → length t ≡ 2 * width
    → ReadPromise live track_entry 0 2 0 t r t'
    → (r ≡ Ok 1) × (t' ≡ 0xAE ∷ 0 ∷ 0 ∷ 2 ∷ 0 ∷ 1 ∷ 0 ∷ 1 ∷ zeros width)

-- Not one that gives the same table for all bytes: these two payloads have no leaf, so that no leaf bytes could tell
-- them apart. Where two rows are lent, no table at exit is permitted for both.
abbrev pub NotOneTable : Type 0
NotOneTable =
    (live : Bool) (t u : List ℕ) (r r' : Result ℕ Refusal) (t' : List ℕ) → length t ≡ 2 * width → length u ≡ 2 * width
    → ReadPromise live track_entry 0 2 0 t r t' → ReadPromise live block_group 0 2 0 u r' t' → ⊥

-- Not one that touches nothing: whatever the table held, numbers beyond the last row are 0, and after a refusal all
-- are.
abbrev pub NotUntouched : Type 0
NotUntouched =
    (live : Bool) (s : List ℕ) (start size parent : ℕ) (t t' : List ℕ)
    → ((n : ℕ) → ReadPromise live s start size parent t (Ok n) t' → (k : ℕ) → n * width ≤ k → get_or t' k 0 ≡ 0)
    × ((e : Refusal) → ReadPromise live s start size parent t (Err e) t' → t' ≡ zeros (length t))
