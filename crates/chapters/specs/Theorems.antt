-- What is proved of the definitions beside the contracts: the statements of the theorems.
use Rattle.std.specs.Prelude.{ℕ, ◌<◌, ◌≡◌, List, ◌↔◌, Bool, length}
use Rattle.bodies_rules.specs.declared.body.Range.{Range}
use Rattle.elements_rules.specs.declared.row.Row.{Row}
use Rattle.locate_rules.specs.Asked.{found}
use Rattle.locate_rules.specs.Promise.{of_below}
use Rattle.locate_rules.specs.Theorems.{OneReply, OnlyListed, OnlyHonest, Addressed}
use Rattle.locate_rules.specs.Live.{BothModes}
use Rattle.chapters.specs.Records.{edition_of, chapter_of, display_of}
use Rattle.chapters.specs.First.{first_string}
use Rattle.chapters.specs.Promise.{edition_asked, chapter_asked, display_asked}
use Rattle.chapters.specs.Promise.{EditionPromise, ChapterPromise, DisplayPromise}
use Rattle.std.specs.Prelude.{Result, Option, Ok, Err, Some, None}
use Rattle.chapters.specs.declared.display.ChapterDisplay.{ChapterDisplay}
use Rattle.refusals.specs.declared.refusal.Refusal.{Refusal}

-- Any two replies and tables that a promise permits to one question are equal (document 01, Strength of the promises).
-- The numbers that stood in the lent table do not matter, only how many there are.
abbrev pub OneEdition : Type 0
OneEdition = (live : Bool) (s : List ℕ) (start size k : ℕ) → OneReply (EditionPromise live s start size k)

abbrev pub OneChapter : Type 0
OneChapter = (live : Bool) (s : List ℕ) (start size k i : ℕ) → OneReply (ChapterPromise live s start size k i)

abbrev pub OneDisplay : Type 0
OneDisplay = (live : Bool) (s : List ℕ) (start size k i j : ℕ) → OneReply (DisplayPromise live s start size k i j)

-- A refusal among the replies that a promise permits is one of the list (`Listed`).
pub record ChaptersRefuseListed : Type 0 where
  pub edition :
      (live : Bool) (s : List ℕ) (start size k : ℕ) → OnlyListed Err (EditionPromise live s start size k)
  pub chapter :
      (live : Bool) (s : List ℕ) (start size k i : ℕ) → OnlyListed Err (ChapterPromise live s start size k i)
  pub display :
      (live : Bool) (s : List ℕ) (start size k i j : ℕ) → OnlyListed Err (DisplayPromise live s start size k i j)

-- Where it broke: the payload's refusals are honest, and 14 and 15 have address 0.
pub record ChaptersHonest : Type 0 where
  pub edition :
      (live : Bool) (s : List ℕ) (start size k : ℕ)
      → OnlyHonest live s start size 0x45B9 Err (EditionPromise live s start size k)
  pub chapter :
      (live : Bool) (s : List ℕ) (start size k i : ℕ)
      → OnlyHonest live s start size 0x45B9 Err (ChapterPromise live s start size k i)
  pub display :
      (live : Bool) (s : List ℕ) (start size k i j : ℕ)
      → OnlyHonest live s start size 0x45B9 Err (DisplayPromise live s start size k i j)

-- Every address in a record that is told is the payload's place of one of the rows that the table holds at exit.
pub record ChaptersAddressed : Type 0 where
  pub edition :
      (live : Bool) (s : List ℕ) (start size k : ℕ)
      → Addressed (of_below (edition_of s)) (edition_asked live s start size k)
  pub chapter :
      (live : Bool) (s : List ℕ) (start size k i : ℕ)
      → Addressed (of_below (chapter_of s)) (chapter_asked live s start size k i)
  pub display :
      (live : Bool) (s : List ℕ) (start size k i j : ℕ)
      → Addressed (of_below (display_of s)) (display_asked live s start size k i j)

-- Live mode beside old mode (document 02, C-18): 17, or the equal reply and table; and these where all sizes that are
-- read are known. It shuts out a live mode that counts the chapters of an edition of unknown size up to the payload's
-- end.
pub record ChaptersLive : Type 0 where
  pub edition :
      (s : List ℕ) (start size k : ℕ)
      → BothModes s start size 0x45B9 Err (λ (live : Bool). EditionPromise live s start size k)
  pub chapter :
      (s : List ℕ) (start size k i : ℕ)
      → BothModes s start size 0x45B9 Err (λ (live : Bool). ChapterPromise live s start size k i)
  pub display :
      (s : List ℕ) (start size k i j : ℕ)
      → BothModes s start size 0x45B9 Err (λ (live : Bool). DisplayPromise live s start size k i j)

-- ---- a chapter's first display with a set string

-- The string that a reply of `display_at` tells; a refusal tells none.
abbrev pub string_told : Result (ChapterDisplay × ℕ) Refusal → Option Range
string_told (Ok (d, rows)) = d.string
string_told (Err e) = None

-- Display j is the first with a set string exactly if its string is set and those before it are unset; and there is
-- none exactly if each is unset.
pub record First (strings : ℕ → Option Range) (first : Option (ℕ × Range)) : Type 0 where
  pub at :
      (j : ℕ) (g : Range)
      → (first ≡ Some (j, g)) ↔ ((strings j ≡ Some g) × ((m : ℕ) → m < j → strings m ≡ None))
  pub none : (first ≡ None) ↔ ((j : ℕ) → strings j ≡ None)

-- So it is of the replies of `display_at` to the questions for the displays of one chapter.
abbrev pub FirstOfDisplays : Type 0
FirstOfDisplays =
    (live : Bool) (s : List ℕ) (start size k i : ℕ) (t : List ℕ) (replies : ℕ → Result (ChapterDisplay × ℕ) Refusal) (tables : ℕ → List ℕ)
    → ((j : ℕ) → DisplayPromise live s start size k i j t (replies j) (tables j))
    → (rs : List Row) (chapter : ℕ) → chapter_asked live s start size k i (length t) ≡ found rs chapter
    → First (λ (j : ℕ). string_told (replies j)) (first_string s rs chapter)
