-- The words of a line are the parts between its spaces, and a byte's first place is where a search finds it. Assumes
-- nothing.
use Rattle.std.proofs.Common.{◌≡◌, refl, sym, ◌∙◌, ℕ, zero, suc, ◌+◌, ◌-◌, ◌≤◌, Bool, true, false, cond, not, eqb, ltb}
use Rattle.std.proofs.Common.{List, [], ◌∷◌, length, take, drop, get_or, take_all, length-drop}
use Rattle.std.proofs.Common.{Option, Some, None, option_map, unwrap_or, arith, tests}
use Rattle.std.specs.List.{onto_first, position_or_len, position}
use Rattle.std.proofs.lemmas.List.Recursion.{is_position_or_len}
use Rattle.std.proofs.lemmas.List.Sums.{position_or_len_is, prefix_len-le-length}
use Rattle.std.proofs.lemmas.List.Quantifiers.{position-Some}
use Rattle.words.specs.Words.{or_more, before, First, word_of, words_of}

-- A part that a byte is put in front of, and those behind it.
first_part : (x : ℕ) (ps : List (List ℕ)) → get_or (onto_first x ps) 0 [] ≡ x ∷ get_or ps 0 []
first_part x [] = refl
first_part x (p ∷ ps) = refl

later_part : (x k : ℕ) (ps : List (List ℕ)) → get_or (onto_first x ps) (suc k) [] ≡ get_or ps (suc k) []
later_part x k [] = refl
later_part x k (p ∷ ps) = refl

word_step :
    (k x : ℕ) (s : List ℕ) → ((j : ℕ) → word_of j s ≡ get_or (words_of s) j [])
    → (t : Bool) → eqb x 32 ≡ t → word_of k (x ∷ s) ≡ get_or (words_of (x ∷ s)) k []
unfolding word_of before
word_step zero x s h true e = rw e refl
word_step (suc k) x s h true e = rw e (h k)
word_step zero x s h false e = rw (e, first_part) (rw (sym (h 0)) refl)
word_step (suc k) x s h false e = rw (e, later_part) (h (suc k))

no_word : (k : ℕ) → word_of k [] ≡ []
unfolding word_of before
no_word zero = refl
no_word (suc k) = no_word k

no_part : (k : ℕ) → get_or {A = List ℕ} ([] ∷ []) k [] ≡ []
no_part zero = refl
no_part (suc k) = refl

pub word_is : (s : List ℕ) (k : ℕ) → word_of k s ≡ get_or (words_of s) k []
word_is [] k = no_word k ∙ sym (no_part k)
word_is (x ∷ s) k = word_step k x s (word_is s) (eqb x 32) refl

-- What is read of a value, or of another in its place.
pub read_or : {A B : Type 0} (f : A → B) (r : Option A) (d : A) → f (unwrap_or r d) ≡ unwrap_or (option_map f r) (f d)
read_or f (Some x) d = refl
read_or f None d = refl

or_more_is : (t : Bool) (n : ℕ) → or_more t n ≡ cond t 0 (1 + n)
or_more_is true n = refl
or_more_is false n = omega arith

-- How many bytes stand before the first b is where a search finds it, or the end.
before_is : (b : ℕ) (s : List ℕ) → before b s ≡ position_or_len (λ x. eqb x b) s
unfolding before
before_is b s = is_position_or_len (before b) (λ x. eqb x b) refl (λ x xs. or_more_is (eqb x b) (before b xs)) s

passed : (n p : ℕ) → None ≡ cond (ltb p n) (Some p) None → n ≤ p
passed n p e = grind (arith, tests)

module _ (s : List ℕ) (from b : ℕ) (h : from ≤ length s) where
  rest : take (length s - from) (drop from s) ≡ drop from s
  rest = take_all _ (drop from s) (omega (arith, length-drop from s))

  abbrev found : Option ℕ → Type 0
  found r = r ≡ position (λ x. eqb x b) (take (length s - from) (drop from s))

  pub first_at : (i : ℕ) → found (Some i) → First s from b (from + i)
  first_at i e =
      let f = position-Some (λ x. eqb x b) (drop from s) i 0 (sym (rw rest at e)) in
      let at = position_or_len_is (λ x. eqb x b) (drop from s) i 0 (omega (arith, f.0)) f.2 (λ _. f.1) in
      let p = before_is b (drop from s) in
      record { low = omega arith; high = omega (arith, f.0, length-drop from s); place = omega (arith, at, p) }

  pub first_none : found None → First s from b (length s)
  first_none e =
      let p = before_is b (drop from s) in
      let within = prefix_len-le-length (λ x. not (eqb x b)) (drop from s) in
      let past = passed (length (drop from s)) _ (rw rest at e) in
      record { low = h; high = omega arith; place = omega (arith, p, within, past, length-drop from s) }
