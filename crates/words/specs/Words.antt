-- What the words of a line are (docs/ASK.md: words parted by one space).
use Rattle.std.specs.List.{slice_split}
use Rattle.std.specs.Prelude.{◌==◌, ◌≡◌, Bool, true, false, List, [], ◌∷◌, ℕ, zero, suc, ◌+◌, ◌≤◌, eqb, length, take, drop}

-- Nothing where a byte is the one sought, else one more.
abbrev pub or_more : Bool → ℕ → ℕ
or_more true n = 0
or_more false n = suc n

-- How many bytes stand before the first b: all of them, where there is none.
unfoldable pub before : ℕ → List ℕ → ℕ
before b [] = 0
before b (x ∷ s) = or_more (eqb x b) (before b s)

-- From `from` on, r is the place of the first b, or the end.
pub record First (s : List ℕ) (from b r : ℕ) : Type 0 where
  pub low : from ≤ r
  pub high : r ≤ length s
  pub place : r ≡ from + before b (drop from s)

-- The k-th word, counted from 0; nothing where there are fewer. A space is the byte 32.
unfoldable pub word_of : ℕ → List ℕ → List ℕ
word_of zero s = take (before 32 s) s
word_of (suc k) s = word_of k (drop (suc (before 32 s)) s)

-- All words, in order: one more than there are spaces.
abbrev pub words_of : List ℕ → List (List ℕ)
words_of s = slice_split (λ b. b == 32) s

-- No more bytes than a recording of a question may have.
abbrev pub Few : ℕ → Type 0
Few n = n ≤ 65536
