-- How far the counts of a question go, and the parts of its line and its list.
use Rattle.std.specs.Prelude.{ℕ, ◌≤◌, ◌==◌, List, [], ◌∷◌}
use Rattle.std.specs.List.{slice_split}
use Rattle.questions.specs.declared.asked.Asked.{Asked}
use Rattle.questions.specs.declared.open.AskedOpen.{AskedOpen}

-- A question's table has at most so many numbers.
abbrev pub most_asked : ℕ
most_asked = 36000

-- No more numbers than a table of a question may have.
abbrev pub InTable : ℕ → Type 0
InTable n = n ≤ most_asked

-- What a call is lent lies in the room for a recording and for a table.
abbrev pub Lent : Asked → Type 0
Lent a = (a.bytes ≤ 65536) × (a.numbers ≤ most_asked)

-- What `open` is lent lies in the room for a recording and for each table.
pub record AllLent (a : AskedOpen) : Type 0 where
  pub bytes : a.bytes ≤ 65536
  pub info : a.info ≤ most_asked
  pub tracks : a.tracks ≤ most_asked
  pub attachments : a.attachments ≤ most_asked
  pub chapters : a.chapters ≤ most_asked
  pub tags : a.tags ≤ most_asked

-- `live` and the space behind it.
abbrev pub live_word : List ℕ
live_word = 108 ∷ 105 ∷ 118 ∷ 101 ∷ 32 ∷ []

-- All lines of a list, in order: one more than there are line feeds.
abbrev pub lines_of : List ℕ → List (List ℕ)
lines_of s = slice_split (λ b. b == 10) s
