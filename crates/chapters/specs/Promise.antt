-- What each question for a record of Chapters promises of its reply and of the table.
use Rattle.std.specs.Prelude.{ℕ, List, Bool, length}
use Rattle.locate_rules.specs.Steps.{way}
use Rattle.locate_rules.specs.Asked.{Asked, asked}
use Rattle.locate_rules.specs.Promise.{RecordPromise, of_below}
use Rattle.locate_rules.specs.declared.steps.Step.TheVariants.{Here, Nth}
use Rattle.chapters.specs.Records.{edition_of, chapter_of, display_of}
use Rattle.chapters.specs.Told.{edition_told, chapter_told, display_told}
use Rattle.std.specs.Prelude.{Result}
use Rattle.chapters.specs.declared.chapter.Chapter.{Chapter}
use Rattle.chapters.specs.declared.display.ChapterDisplay.{ChapterDisplay}
use Rattle.chapters.specs.declared.edition.ChapterEdition.{ChapterEdition}
use Rattle.refusals.specs.declared.refusal.Refusal.{Refusal}

-- ---- the questions, with a table of so many numbers

-- Each reads the payload under 45B9, the id that document 01, Kinds, gives for Chapters, so that the full set of
-- masters holds for its direct children; then a step for each level.
module _ (live : Bool) (s : List ℕ) (start size k : ℕ) where
  abbrev pub edition_asked : (numbers : ℕ) → Asked
  edition_asked numbers = asked live s start size 0x45B9 numbers (way (Nth 0x45B9 k) Here Here)

  abbrev pub chapter_asked : (i numbers : ℕ) → Asked
  chapter_asked i numbers = asked live s start size 0x45B9 numbers (way (Nth 0x45B9 k) (Nth 0xB6 i) Here)

  abbrev pub display_asked : (i j numbers : ℕ) → Asked
  display_asked i j numbers = asked live s start size 0x45B9 numbers (way (Nth 0x45B9 k) (Nth 0xB6 i) (Nth 0x80 j))

-- ---- the promises

abbrev pub EditionPromise :
    (live : Bool) (s : List ℕ) (start size k : ℕ) (t : List ℕ) (r : Result (ChapterEdition × ℕ) Refusal) (t' : List ℕ) → Type 0
EditionPromise live s start size k t r t' =
    RecordPromise (of_below (edition_of s)) (edition_asked live s start size k (length t)) (length t) (edition_told r) t'

abbrev pub ChapterPromise :
    (live : Bool) (s : List ℕ) (start size k i : ℕ) (t : List ℕ) (r : Result (Chapter × ℕ) Refusal) (t' : List ℕ) → Type 0
ChapterPromise live s start size k i t r t' =
    RecordPromise (of_below (chapter_of s)) (chapter_asked live s start size k i (length t)) (length t) (chapter_told r) t'

abbrev pub DisplayPromise :
    (live : Bool) (s : List ℕ) (start size k i j : ℕ) (t : List ℕ) (r : Result (ChapterDisplay × ℕ) Refusal) (t' : List ℕ) → Type 0
DisplayPromise live s start size k i j t r t' =
    RecordPromise (of_below (display_of s)) (display_asked live s start size k i j (length t)) (length t)
    (display_told r) t'
