-- What the cases of a match over ids say of the kind by the list: a case of one id, a key, by `key`; the ids from one
-- to another, a range or what lies between two ranges, by `ranged`. Assumes nothing.
use mathlib.Core.Path.{◌≡◌, refl, ap, sym, ◌∙◌, subst}
use mathlib.Core.List.{List, [], ◌∷◌}
use mathlib.Core.Bool.{Bool, true, false, cond, ◌&&◌, ◌||◌}
use mathlib.Core.Logic.{◌⊎◌, inl, inr, ⊎_elim}
use Prim.Native.Nat.{ℕ, suc, ◌+◌, ◌-◌, ◌≤◌}
use native.Mathlib.Omega.{arith}
use lib.Dec.{T, eqb, ltb, eqb→eq, ltb→lt}
use borrow.Author.Tests.{eq-eqb}
use mir.Facts.{or_yes}
use Rattle.booleans.proofs.Computed.{both_left, both_right, below, at}
use Rattle.kinds.specs.Elements.{Row, row, elements}
use Rattle.kinds.specs.Kinds.{number_of, kind_in, member}
use Rattle.kinds.specs.Theorems.{ids}
use Rattle.kinds.specs.declared.kind.Kind.{Kind}
use Rattle.kinds.specs.declared.kind.Kind.TheVariants.{Master, Int, Uint, String, Utf8, Binary, Float, Date}
use Rattle.kinds.proofs.Numbers.{number_tells}

abbrev same : Kind → Kind → Bool
same k k' = eqb (number_of k) (number_of k')

same_is : (k k' : Kind) → T (same k k') → k ≡ k'
same_is k k' t = number_tells k k' (eqb→eq (number_of k) (number_of k') t)

-- ---- keys: the runs of one id

-- Ids one after another, all of one kind.
pub data Run : Type 0 where
  run : (from to : ℕ) → Kind → Run

-- The runs of rows that come behind a run, which they may prolong.
abbrev longer : (from to : ℕ) → Kind → List Row → List Run
longer a b k [] = run a b k ∷ []
longer a b k (row i k' ∷ rows) =
    cond (eqb i (suc b) && same k k') (longer a i k rows) (run a b k ∷ longer i i k' rows)

abbrev runs : List Row → List Run
runs [] = []
runs (row i k ∷ rows) = longer i i k rows

-- The ids of a kind that are runs by themselves.
abbrev alone : Kind → List Run → List ℕ
alone k [] = []
alone k (run a b k' ∷ rs) = cond (eqb a b && same k k') (a ∷ alone k rs) (alone k rs)

abbrev keys : Kind → List ℕ
keys k = alone k (runs elements)

-- An id is one of a list, as an arm of a match tells it.
abbrev Among : List ℕ → ℕ → Type 0
Among [] x = ⊥
Among (y ∷ []) x = x ≡ y
Among (y ∷ z ∷ ys) x = (x ≡ y) ⊎ Among (z ∷ ys) x

-- Whether each id of a list has the kind.
abbrev each : Kind → List ℕ → Bool
each k [] = true
each k (x ∷ xs) = same k (kind_in elements x) && each k xs

keys_are : (k : Kind) → T (each k (keys k))
unfolding elements kind_in
keys_are Master = tt
keys_are Int = tt
keys_are Uint = tt
keys_are String = tt
keys_are Utf8 = tt
keys_are Binary = tt
keys_are Float = tt
keys_are Date = tt

module _ (k : Kind) (x : ℕ) where
  is : (y : ℕ) → T (same k (kind_in elements y)) → x ≡ y → k ≡ kind_in elements x
  is y t e = same_is k (kind_in elements y) t ∙ ap (kind_in elements) (sym e)

  one_of : (xs : List ℕ) → T (each k xs) → Among xs x → k ≡ kind_in elements x
  one_of [] t h = absurd h
  one_of (y ∷ []) t h = is y (both_left (same k (kind_in elements y)) true t) h
  one_of (y ∷ z ∷ ys) t (inl e) = is y (both_left (same k (kind_in elements y)) (each k (z ∷ ys)) t) e
  one_of (y ∷ z ∷ ys) t (inr h) = one_of (z ∷ ys) (both_right (same k (kind_in elements y)) (each k (z ∷ ys)) t) h

  -- A key of an arm has the arm's kind.
  pub key : Among (keys k) x → k ≡ kind_in elements x
  key h = one_of (keys k) (keys_are k) h

-- ---- ranges, and what is between them

-- An id is no key, as a match tells every id that it compares with ranges: arm by arm. Binary has no arm.
unfoldable pub NoKey : ℕ → Type 0
NoKey x =
    ((((((Unit × (Among (keys Master) x → ⊥)) × (Among (keys Int) x → ⊥)) × (Among (keys Uint) x → ⊥))
    × (Among (keys String) x → ⊥)) × (Among (keys Utf8) x → ⊥)) × (Among (keys Float) x → ⊥))
    × (Among (keys Date) x → ⊥)

-- Whether an id of a kind is a key. A binary id has no case, so none is.
abbrev is_key : (id : ℕ) → Kind → Bool
is_key id Master = member id (keys Master)
is_key id Int = member id (keys Int)
is_key id Uint = member id (keys Uint)
is_key id String = member id (keys String)
is_key id Utf8 = member id (keys Utf8)
is_key id Binary = false
is_key id Float = member id (keys Float)
is_key id Date = member id (keys Date)

member_among : (x : ℕ) (ys : List ℕ) → T (member x ys) → Among ys x
unfolding member
member_among x [] t = t
member_among x (y ∷ []) t = elim (or_yes (eqb x y) false t) [ inl e ↦ eqb→eq x y e | inr n ↦ absurd n ]
member_among x (y ∷ z ∷ ys) t =
    elim (or_yes (eqb x y) (member x (z ∷ ys)) t)
    [ inl e ↦ inl (eqb→eq x y e) | inr m ↦ inr (member_among x (z ∷ ys) m) ]

is_no_key : (x : ℕ) → NoKey x → (k : Kind) → T (is_key x k) → ⊥
unfolding NoKey
is_no_key x none Master t = none.0.0.0.0.0.0.1 (member_among x (keys Master) t)
is_no_key x none Int t = none.0.0.0.0.0.1 (member_among x (keys Int) t)
is_no_key x none Uint t = none.0.0.0.0.1 (member_among x (keys Uint) t)
is_no_key x none String t = none.0.0.0.1 (member_among x (keys String) t)
is_no_key x none Utf8 t = none.0.0.1 (member_among x (keys Utf8) t)
is_no_key x none Binary t = t
is_no_key x none Float t = none.0.1 (member_among x (keys Float) t)
is_no_key x none Date t = none.1 (member_among x (keys Date) t)

-- Whether a row, if its id is from a to b, has the kind k or is a key, which no range decides.
abbrev fits : Kind → (a b : ℕ) → Row → Bool
fits k a b (row i k') = ltb i a || (ltb b i || (same k k' || is_key i k'))

abbrev all_fit : Kind → (a b : ℕ) → List Row → Bool
all_fit k a b [] = true
all_fit k a b (r ∷ rows) = fits k a b r && all_fit k a b rows

-- Whether the ids from a to b are all listed.
abbrev all_listed : (a b : ℕ) → Bool
all_listed a b = below (λ n. member (a + n) (ids elements)) (suc b - a)

-- Whether all ids from a to b, keys aside, have the kind k: each row fits, and no id is in no row, unless k is binary.
abbrev decides : Kind → (a b : ℕ) → Bool
decides k a b = all_fit k a b elements && (same k Binary || all_listed a b)

module _ (k : Kind) (a b : ℕ) {x : ℕ} (low : a ≤ x) (high : x ≤ b) where
  fitting : NoKey x → (k' : Kind) → T (fits k a b (row x k')) → k ≡ k'
  fitting none k' t =
      elim (or_yes (ltb x a) (ltb b x || (same k k' || is_key x k')) t) [
        | inl l ↦ absurd (omega (arith, ltb→lt x a l))
        | inr u ↦
            elim (or_yes (ltb b x) (same k k' || is_key x k') u) [
              | inl g ↦ absurd (omega (arith, ltb→lt b x g))
              | inr v ↦
                  elim (or_yes (same k k') (is_key x k') v)
                  [ inl s ↦ same_is k k' s | inr m ↦ absurd (is_no_key x none k' m) ]
            ]
      ]

  first_fitting :
      NoKey x → (rows : List Row) → T (all_fit k a b rows) → (k ≡ Binary) ⊎ T (member x (ids rows))
      → k ≡ kind_in rows x
  unfolding kind_in member
  first_fitting none [] t (inl e) = e
  first_fitting none [] t (inr m) = absurd m
  first_fitting none (row i k' ∷ rows) t there =
      by (eqb i x) refl
      (λ later. first_fitting none rows (both_right (fits k a b (row i k')) (all_fit k a b rows) t) later)
    where
      by :
          (d : Bool) → eqb i x ≡ d → ((k ≡ Binary) ⊎ T (member x (ids rows)) → k ≡ kind_in rows x)
          → k ≡ cond d k' (kind_in rows x)
      by true e further =
          let here = both_left (fits k a b (row i k')) (all_fit k a b rows) t in
          let same_id = eqb→eq i x (subst T (sym e) tt) in
          fitting none k' (subst (λ (j : ℕ). T (fits k a b (row j k'))) same_id here)
      by false e further =
          further
          (⊎_elim inl
          (λ m.
          elim (or_yes (eqb x i) (member x (ids rows)) m)
          [ inl q ↦ absurd (subst T (sym (eq-eqb i x (sym (eqb→eq x i q))) ∙ e) tt) | inr n ↦ inr n ])
          there)

  is_listed : T (all_listed a b) → T (member x (ids elements))
  is_listed t =
      let place : a + (x - a) ≡ x = omega arith in
      subst (λ (y : ℕ). T (member y (ids elements))) place
      (at (λ n. member (a + n) (ids elements)) (suc b - a) t (x - a) (omega arith))

  -- An id from a to b that is no key has the kind k.
  pub ranged : T (decides k a b) → NoKey x → k ≡ kind_in elements x
  ranged t none =
      first_fitting none elements (both_left (all_fit k a b elements) (same k Binary || all_listed a b) t)
      (⊎_elim
      (λ s. inl (same_is k Binary s))
      (λ m. inr (is_listed m))
      (or_yes (same k Binary) (all_listed a b)
      (both_right (all_fit k a b elements) (same k Binary || all_listed a b) t)))
