-- Every address in a record is the payload's place of a row of the table (`ChaptersAddressed`). Assumes nothing.
use Prim.Native.Nat.{ℕ, ◌≤◌}
use mathlib.Core.List.{List}
use lib.ListN.{length}
use Rattle.elements_rules.specs.declared.row.Row.{Row}
use Rattle.fields_rules.specs.Children.{subtree}
use Rattle.locate_rules.specs.Theorems.{AllPlaced}
use Rattle.locate_rules.proofs.Addressed.{numbers, flags, counts, parts, languages, asked_addressed}
use Rattle.chapters.specs.Records.{edition_of, chapter_of, display_of}
use Rattle.chapters.specs.Theorems.{ChaptersAddressed}

module _ (s : List ℕ) (rs : List Row) (parent : ℕ) (l : parent ≤ length rs) where
  edition_placed : AllPlaced rs (edition_of s parent (subtree rs parent))
  unfolding edition_of AllPlaced
  edition_placed =
      let number = numbers s rs parent l in
      let flag = flags s rs parent l in
      let count = counts s rs parent l in
      (number _, (flag _, (flag _, (flag _, (count _ _, tt)))))

  chapter_placed : AllPlaced rs (chapter_of s parent (subtree rs parent))
  unfolding chapter_of AllPlaced
  chapter_placed =
      let number = numbers s rs parent l in
      let flag = flags s rs parent l in
      let part = parts s rs parent l in
      let count = counts s rs parent l in
      (number _, (number _, (number _, (flag _, (flag _, (part _ _, (number _, (count _ _, tt))))))))

  display_placed : AllPlaced rs (display_of s parent (subtree rs parent))
  unfolding display_of AllPlaced
  display_placed =
      let part = parts s rs parent l in
      let language = languages s rs parent l in
      (part _ _, (language _ _, tt))

pub chapters_addressed : ChaptersAddressed
chapters_addressed =
    record {
      edition = λ live s start size k. asked_addressed live _ (edition_placed s) s start size _ _;
      chapter = λ live s start size k i. asked_addressed live _ (chapter_placed s) s start size _ _;
      display = λ live s start size k i j. asked_addressed live _ (display_placed s) s start size _ _;
    }
