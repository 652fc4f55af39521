-- Rows written into a table. Assumes nothing.
use Prim.Native.Nat.{ℕ, zero, suc, ◌+◌, ◌-◌, ◌*◌, ◌/◌, ◌≤◌, ◌<◌}
use mathlib.Core.Path.{◌≡◌, refl, sym, ap, ◌∙◌}
use mathlib.Core.List.{List, [], ◌∷◌, ◌++◌, append-nil}
use mathlib.Core.Bool.{Bool, true, false, cond, not}
use native.Mathlib.Nat.{add-zero, add-suc, suc-add, sub-zero}
use native.Mathlib.Omega.{arith}
use lib.ListN.{length, get_or, drop, set, drop_of_length-le, length-append, length-replicate}
use lib.Seq.{sets, length-sets, drop-nil, get_or-drop, set_comm, set-set, drop-append_seam}
use borrow.Author.Tests.{leb-false, le-leb, lt-leb}
use Rattle.kinds.specs.Kinds.{number_of}
use Rattle.elements_rules.specs.Reading.{full}
use Rattle.elements_rules.specs.Forest.{Element}
use Rattle.elements_rules.specs.Rows.{row_of, width, after_column, flat, flatten, first_row, row_at}
use Rattle.elements_rules.specs.Promise.{zeros}
use Rattle.elements_rules.specs.Contract.{written, closed, Room, ClearFrom}
use Rattle.elements_rules.specs.declared.row.Row.{Row}
use Rattle.elements_rules.specs.declared.row.Mode.{Mode}

sets_append : (xs ys t : List ℕ) (i : ℕ) → sets t i (xs ++ ys) ≡ sets (sets t i xs) (i + length xs) ys
sets_append [] ys t i = rw add-zero
sets_append (x ∷ xs) ys t i = sets_append xs ys (set t i x) (suc i) ∙ simp (add-suc, suc-add)

-- A number stored before the numbers that were written, and one among them that is stored anew.
set_sets : (vs t : List ℕ) (i j y : ℕ) → j < i → set (sets t i vs) j y ≡ sets (set t j y) i vs
set_sets [] t i j y l = refl
set_sets (v ∷ vs) t i j y l =
    let ne : i ≡ j → ⊥ = λ z. omega arith in
    set_sets vs (set t i v) (suc i) j y (omega arith) ∙ ap (λ (x : List ℕ). sets x (suc i) vs) (set_comm t i j v y ne)

patched : (xs ys t : List ℕ) (i x y : ℕ)
    → set (sets t i (xs ++ (x ∷ ys))) (i + length xs) y ≡ sets t i (xs ++ (y ∷ ys))
patched [] ys t i x y = rw (add-zero i) (set_sets ys (set t i x) (suc i) i y (omega arith) ∙ rw (set-set t i x y))
patched (v ∷ xs) ys t i x y = simp (add-suc, ← suc-add) (patched xs ys (set t i v) (suc i) x y)

pub length_flatten : (rs : List Row) → length (flatten rs) ≡ length rs * width
unfolding flatten flat
length_flatten [] = refl
length_flatten (r ∷ rs) = let h = length_flatten rs in omega arith

flatten_append : (rs ss : List Row) → flatten (rs ++ ss) ≡ flatten rs ++ flatten ss
unfolding flatten flat
flatten_append [] ss = refl
flatten_append (r ∷ rs) ss = rw (flatten_append rs ss)

pub drop_zeros : (k n : ℕ) → drop k (zeros n) ≡ zeros (n - k)
drop_zeros zero n = rw (sub-zero n)
drop_zeros (suc k) zero = drop-nil (suc k) ∙ (let e : 0 - suc k ≡ 0 = omega arith in rw e)
drop_zeros (suc k) (suc n) = drop_zeros k n ∙ (let e : suc n - suc k ≡ n - k = omega arith in rw e)

pub zeros_at : (m i : ℕ) → get_or (zeros m) i 0 ≡ 0
zeros_at zero i = refl
zeros_at (suc m) zero = refl
zeros_at (suc m) (suc i) = zeros_at m i

-- ---- rows where rows are kept

module _ (mode : Mode) (t : List ℕ) (n : ℕ) where
  pub written_none : written mode t n [] ≡ t
  unfolding written flatten
  written_none = go mode.keep
    where
      go : (b : Bool) → cond b t t ≡ t
      go true = refl
      go false = refl

  pub length_written : (rs : List Row) → length (written mode t n rs) ≡ length t
  unfolding written
  length_written rs = go mode.keep
    where
      go : (b : Bool) → length (cond b (sets t (n * width) (flatten rs)) t) ≡ length t
      go true = length-sets t (n * width) (flatten rs)
      go false = refl

  pub written_append : (rs ss : List Row)
      → written mode (written mode t n rs) (n + length rs) ss ≡ written mode t n (rs ++ ss)
  unfolding written
  written_append rs ss = go mode.keep
    where
      go : (b : Bool)
          → cond b
          (sets (cond b (sets t (n * width) (flatten rs)) t) ((n + length rs) * width) (flatten ss))
          (cond b (sets t (n * width) (flatten rs)) t)
          ≡ cond b (sets t (n * width) (flatten (rs ++ ss))) t
      go true =
          let h = length_flatten rs in
          let e : (n + length rs) * width ≡ n * width + length (flatten rs) = omega arith in
          rw (e, flatten_append rs ss) (sym (sets_append (flatten rs) (flatten ss) t (n * width)))
      go false = refl

  pub written_one : (r : Row) → mode.keep ≡ true → written mode t n (r ∷ []) ≡ sets t (n * width) (flat r)
  unfolding written flatten flat
  written_one r k = rw k

  -- A row's last number, stored when the rows behind it are written.
  pub closed_row : (e : Element) (parent depth at x after : ℕ) (rs : List Row)
      → closed mode (written mode t n (row_of e parent depth at x ∷ rs)) n after
      ≡ written mode t n (row_of e parent depth at after ∷ rs)
  unfolding closed written flatten flat
  closed_row e parent depth at x after rs = go mode.keep
    where
      all : ℕ → List ℕ
      all y = flatten (row_of e parent depth at y ∷ rs)

      first : List ℕ
      first =
          e.header.id ∷ parent ∷ at ∷ e.header.length ∷ e.header.size ∷ number_of e.kind ∷ depth ∷ []

      go : (b : Bool)
          → cond b (set (cond b (sets t (n * width) (all x)) t) (n * width + after_column) after)
          (cond b (sets t (n * width) (all x)) t)
          ≡ cond b (sets t (n * width) (all after)) t
      go true = patched first (flatten rs) t (n * width) x after
      go false = refl

  pub written_unkept : (rs : List Row) → mode.keep ≡ false → written mode t n rs ≡ t
  unfolding written
  written_unkept rs k = rw k

-- ---- whether a row is free

module _ (mode : Mode) (cap n : ℕ) where
  pub full_taken : mode.keep ≡ true → cap ≤ n → full mode cap n ≡ true
  unfolding full
  full_taken k h = rw (k, le-leb cap n h)

  pub full_free : mode.keep ≡ true → n < cap → full mode cap n ≡ false
  unfolding full
  full_free k h = rw (k, lt-leb cap n h)

  pub full_unkept : mode.keep ≡ false → full mode cap n ≡ false
  unfolding full
  full_unkept k = rw k

-- Where a row is free, there is room for one more.
pub room_free : (mode : Mode) (t : List ℕ) (n : ℕ) → full mode (length t / width) n ≡ false → Room mode t (n + 1)
unfolding full
room_free mode t n q k = let h = leb-false (length t / width) n (rw k at q) in omega arith

-- What `keep_row` answered says whether the table was full.
pub no_room : (f kept : Bool) → kept ≡ not f → not kept ≡ true → f ≡ true
no_room true kept e h = refl
no_room false kept e h = let z : true ≡ false = sym h ∙ ap not e in sym z

pub has_room : (f kept : Bool) → kept ≡ not f → not kept ≡ false → (f ≡ false) × (kept ≡ true)
has_room true kept e h = let z : true ≡ false = sym (ap not e) ∙ h in (z, e ∙ sym z)
has_room false kept e h = (refl, e)

-- ---- what `keep_row` leaves

module _ (mode : Mode) (t t' : List ℕ) (n : ℕ) (r : Row) where
  abbrev pub Kept : Bool → Type 0
  Kept kept =
      (kept ≡ not (full mode (length t / width) n)) × (kept ≡ true → t' ≡ written mode t n (r ∷ []))

  pub kept_full : mode.keep ≡ true → length t / width ≤ n → Kept false
  kept_full k h = (
    sym (ap not (full_taken mode (length t / width) n k h)),
    λ z. let x : ◌≡◌ {A = ℕ} 0 1 = cc in absurd (omega arith),
  )

  pub kept_row : mode.keep ≡ true → n < length t / width → t' ≡ sets t (n * width) (flat r) → Kept true
  kept_row k h w = (sym (ap not (full_free mode (length t / width) n k h)), λ z. w ∙ sym (written_one mode t n r k))

  pub kept_none : mode.keep ≡ false → t' ≡ t → Kept true
  kept_none k w =
      (sym (ap not (full_unkept mode (length t / width) n k)), λ z. w ∙ sym (written_unkept mode t n (r ∷ []) k))

-- ---- a table that is cleared

pub cleared : (t : List ℕ) (i : ℕ) → i ≤ length t → length t ≤ i → zeros i ++ drop i t ≡ zeros (length t)
cleared t i a b =
    let e : i ≡ length t = omega arith in
    rw (drop_of_length-le t b, append-nil, e)

-- So many rows are cleared, and behind them it was clear.
pub cleared_rows : (t : List ℕ) (rows i : ℕ) → ClearFrom rows t → i ≡ rows * width → i ≤ length t
    → zeros i ++ drop i t ≡ zeros (length t)
cleared_rows t rows i c e l =
    rw e (ap (λ (x : List ℕ). zeros (rows * width) ++ x) c ∙ zeros_join (rows * width) (length t - rows * width)
    ∙ (let k : rows * width + (length t - rows * width) ≡ length t = omega arith in rw k))
  where
    zeros_join : (a b : ℕ) → zeros a ++ zeros b ≡ zeros (a + b)
    zeros_join zero b = let e : 0 + b ≡ b = omega arith in rw e refl
    zeros_join (suc a) b =
        let e : suc a + b ≡ suc (a + b) = omega arith in
        rw e (ap (λ (x : List ℕ). 0 ∷ x) (zeros_join a b))

-- Zeros are clear from any row on, and a table behind the rows that it holds.
pub zeros_clear : (rows n : ℕ) → ClearFrom rows (zeros n)
zeros_clear rows n = drop_zeros (rows * width) n ∙ rw (length-replicate {A = ℕ} n 0) refl

pub rows_clear : (rs : List Row) (rows m : ℕ) → rows ≡ length rs → ClearFrom rows (flatten rs ++ zeros m)
rows_clear rs rows m q =
    let k : length (flatten rs) ≡ rows * width = length_flatten rs ∙ ap (λ (x : ℕ). x * width) (sym q) in
    let d : drop (rows * width) (flatten rs ++ zeros m) ≡ zeros m
    = ap (λ (x : ℕ). drop x (flatten rs ++ zeros m)) (sym k) ∙ drop-append_seam (flatten rs) (zeros m) in
    let z : length (zeros m) ≡ m = length-replicate {A = ℕ} m 0 in
    let l = length-append (flatten rs) (zeros m) in
    let e : length (flatten rs ++ zeros m) - rows * width ≡ m = omega arith in
    d ∙ rw e refl

-- ---- a row of a table

pub row_there : (t : List ℕ) (k : ℕ)
    → record {
      id = get_or t (k * width) 0;
      parent = get_or t (k * width + 1) 0;
      address = get_or t (k * width + 2) 0;
      header = get_or t (k * width + 3) 0;
      payload = get_or t (k * width + 4) 0;
      kind = get_or t (k * width + 5) 0;
      depth = get_or t (k * width + 6) 0;
      after = get_or t (k * width + after_column) 0;
    } ≡ row_at t k
unfolding row_at first_row
row_there t k =
    let g : (i : ℕ) → get_or (drop (k * width) t) i 0 ≡ get_or t (k * width + i) 0 = λ i. get_or-drop (k * width) t i 0 in
    let z : k * width + 0 ≡ k * width = omega arith in
    rw (g 0, g 1, g 2, g 3, g 4, g 5, g 6, g after_column, z)
