-- What is proved of the stage label beside the contract: the statements of the theorems.
use Rattle.std.specs.Prelude.{ℕ, ◌+◌, ◌≤◌, ◌<◌, ◌≡◌, List, [], Bool, true, length, take, drop}
use Rattle.bodies_rules.specs.declared.body.Range.{Range}
use Rattle.elements_rules.specs.Rows.{row_at}
use Rattle.elements_rules.specs.declared.row.Row.{Row}
use Rattle.places_rules.specs.Promise.{RangePromise}
use Rattle.locate_rules.specs.Asked.{found}
use Rattle.chapters.specs.First.{first_string}
use Rattle.chapters.specs.Promise.{chapter_asked, DisplayPromise}
use Rattle.chapters.specs.declared.display.ChapterDisplay.{ChapterDisplay}
use Rattle.shown_rules.specs.Shown.{is_text}
use Rattle.shown_rules.specs.Promise.{ShownPromise}
use Rattle.shown_rules.specs.Theorems.{BeforeZero, Shows}
use Rattle.labels.specs.Promise.{LabelPromise}
use Rattle.std.specs.Prelude.{Result, Option, Ok, Some, None}
use Rattle.refusals.specs.declared.refusal.Refusal.{Refusal}

-- Any two labels that the promise permits to one question are equal (document 01, Strength of the promises).
abbrev pub OneLabel : Type 0
OneLabel =
    (s : List ℕ) (string : Option Range) (own part part' : List ℕ) → LabelPromise s string own part
    → LabelPromise s string own part' → part ≡ part'

-- Without a string in the recording the label is the caller's own, whole, whatever it holds.
pub record OwnWithoutString : Type 0 where
  pub unset : (s own part : List ℕ) → LabelPromise s None own part → part ≡ own
  pub outside :
      (s : List ℕ) (string : Range) (own part : List ℕ) → length s < string.at + string.length
      → LabelPromise s (Some string) own part → part ≡ own

-- The label that is asked with a string whose shown text is `text`: that text if it is not empty, whatever the caller's
-- own label is; else the caller's own, whole.
pub record LabelBy (s : List ℕ) (string : Range) (text : List ℕ) : Type 0 where
  pub some : (own part : List ℕ) → (text ≡ [] → ⊥) → LabelPromise s (Some string) own part → part ≡ text
  pub none : (own part : List ℕ) → text ≡ [] → LabelPromise s (Some string) own part → part ≡ own

-- So it is of every range in the recording, and its part up to the first zero octet.
abbrev pub LabelInside : Type 0
LabelInside =
    (s : List ℕ) (string : Range) → string.at + string.length ≤ length s
    → (text : List ℕ) → BeforeZero (take string.length (drop string.at s)) text → LabelBy s string text

-- So it is of the string that is a text row's payload, and the row's shown text.
abbrev pub LabelIsShown : Type 0
LabelIsShown =
    (s t : List ℕ) (row : ℕ) (string : Range) → is_text (row_at t row).kind ≡ true
    → RangePromise s t row (Ok string)
    → (text : List ℕ) → ShownPromise s t row text → LabelBy s string text

-- The row that a display's string comes from: a text row that the table holds at exit, whose payload is the string. Its
-- shown text is the string up to the first zero octet, in UTF-8, and the label goes by it.
pub record StringRow (s t' : List ℕ) (rows : ℕ) (string : Range) : Type 0 where
  pub row : ℕ
  pub there : row < rows
  pub kind : is_text (row_at t' row).kind ≡ true
  pub place : RangePromise s t' row (Ok string)
  pub text : List ℕ
  pub promised : ShownPromise s t' row text
  pub shows : Shows (take string.length (drop string.at s)) text
  pub label : LabelBy s string text

-- The label that is asked with a display's set string goes by the shown text of a row.
abbrev pub StageIsShown : Type 0
StageIsShown =
    (live : Bool) (s : List ℕ) (start size k i j : ℕ) (t : List ℕ) (d : ChapterDisplay) (rows : ℕ) (t' : List ℕ)
    (string : Range)
    → DisplayPromise live s start size k i j t (Ok (d, rows)) t' → d.string ≡ Some string
    → StringRow s t' rows string

-- A display's reply that has a string, and the row that the string comes from.
pub record ShownBy (s : List ℕ) (reply : Result (ChapterDisplay × ℕ) Refusal) (t' : List ℕ) (string : Range) : Type 0 where
  pub display : ChapterDisplay
  pub rows : ℕ
  pub told : reply ≡ Ok (display, rows)
  pub row : StringRow s t' rows string

-- So it is of a chapter's first display with a set string, as `first_string` gives it: the stage label that is asked
-- with it goes by the shown text of a row of the table that the question for that display leaves.
abbrev pub FirstIsShown : Type 0
FirstIsShown =
    (live : Bool) (s : List ℕ) (start size k i : ℕ) (t : List ℕ) (replies : ℕ → Result (ChapterDisplay × ℕ) Refusal) (tables : ℕ → List ℕ)
    → ((j : ℕ) → DisplayPromise live s start size k i j t (replies j) (tables j))
    → (rs : List Row) (chapter : ℕ) → chapter_asked live s start size k i (length t) ≡ found rs chapter
    → (j : ℕ) (string : Range) → first_string s rs chapter ≡ Some (j, string)
    → ShownBy s (replies j) (tables j) string
