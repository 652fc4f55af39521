-- Worked labels, as one table: a question about a few octets, and the label. They show the rule of document 02, C-13.
use Rattle.std.specs.Prelude.{ℕ, ◌≡◌, List, [], ◌∷◌, false, length}
use Rattle.locate_rules.specs.Asked.{Asked, found, refusing}
use Rattle.locate_rules.specs.Cases.{numbers}
use Rattle.chapters.specs.First.{first_string}
use Rattle.chapters.specs.Promise.{chapter_asked}
use Rattle.labels.specs.Labels.{label_of}
use Rattle.std.specs.Prelude.{Option, Some, None}
use Rattle.bodies_rules.specs.declared.body.Range.{Range}

-- A label, and what it has to be.
pub data Case : Type 0 where
  case : (label due : List ℕ) → Case

-- Every case of a table holds.
abbrev pub Hold : List Case → Type 0
Hold [] = Unit
Hold (case label due ∷ cases) = (label ≡ due) × Hold cases

-- The label that is asked with a range of the recording.
abbrev label : (s : List ℕ) (at n : ℕ) (own due : List ℕ) → Case
label s at n own due = case (label_of s (Some (record { at = at; length = n })) own) due

-- The label of chapter i of edition k of a whole payload, read in old mode, asked with the chapter's first display with
-- a set string.
module _ (s own : List ℕ) where
  abbrev by_first : Option (ℕ × Range) → List ℕ
  by_first None = label_of s None own
  by_first (Some (j, string)) = label_of s (Some string) own

  abbrev by_chapter : Asked → List ℕ
  by_chapter (found rs chapter) = by_first (first_string s rs chapter)
  by_chapter (refusing e) = []

  abbrev stage : (k i : ℕ) (due : List ℕ) → Case
  stage k i due = case (by_chapter (chapter_asked false s 0 (length s) k i numbers)) due

-- A chapter with two displays: the string of the first is one zero octet, that of the second `ab`.
abbrev zero_first : List ℕ
zero_first =
    0x45 ∷ 0xB9 ∷ 0x8D ∷ 0xB6 ∷ 0x8B ∷ 0x80 ∷ 0x83 ∷ 0x85 ∷ 0x81 ∷ 0x00 ∷ 0x80 ∷ 0x84 ∷ 0x85 ∷ 0x82 ∷ 0x61 ∷ 0x62
    ∷ []

-- A chapter whose one string is `SPL` with a tail of two zero octets.
abbrev padded : List ℕ
padded =
    0x45 ∷ 0xB9 ∷ 0x8B ∷ 0xB6 ∷ 0x89 ∷ 0x80 ∷ 0x87 ∷ 0x85 ∷ 0x85 ∷ 0x53 ∷ 0x50 ∷ 0x4C ∷ 0x00 ∷ 0x00 ∷ []

abbrev pub cases : List Case
cases =
    -- The text ends before its first zero octet, not before its last; the caller's label is not asked for.
    label (0x41 ∷ 0x00 ∷ 0x42 ∷ 0x00 ∷ []) 0 4 (0x3F ∷ []) (0x41 ∷ [])
    -- Nothing is shown: the caller's own label is given, with its zero octets, or empty.
    ∷ label (0x00 ∷ 0x41 ∷ []) 0 2 (0x3F ∷ 0x00 ∷ 0x3F ∷ []) (0x3F ∷ 0x00 ∷ 0x3F ∷ [])
    ∷ label (0x41 ∷ []) 0 0 (0x3F ∷ []) (0x3F ∷ [])
    ∷ label (0x00 ∷ []) 0 1 [] []
    -- The whole range has to be in the recording, not only what is shown of it.
    ∷ label (0x41 ∷ 0x00 ∷ []) 0 3 (0x3F ∷ []) (0x3F ∷ [])
    ∷ stage padded (0x3F ∷ []) 0 0 (0x53 ∷ 0x50 ∷ 0x4C ∷ [])
    -- The first display with a set string counts, though nothing of it is shown: the second is not tried.
    ∷ stage zero_first (0x3F ∷ []) 0 0 (0x3F ∷ [])
    ∷ []
