-- Every address in a record is the payload's place of a row of the table (`InfoAddressed`). Assumes nothing.
use Prim.Native.Nat.{ℕ, ◌≤◌}
use mathlib.Core.List.{List}
use lib.ListN.{length}
use Rattle.elements_rules.specs.declared.row.Row.{Row}
use Rattle.fields_rules.specs.Children.{subtree}
use Rattle.locate_rules.specs.Theorems.{AllPlaced}
use Rattle.locate_rules.proofs.Addressed.{numbers, reals, dates, parts, members, counts}
use Rattle.locate_rules.proofs.Addressed.{asked_addressed, listed_addressed}
use Rattle.info_rules.specs.Records.{info_of, family_of, family_fields}
use Rattle.info_rules.specs.Theorems.{InfoAddressed}

module _ (s : List ℕ) (rs : List Row) (parent : ℕ) (l : parent ≤ length rs) where
  info_placed : AllPlaced rs (info_of s parent (subtree rs parent))
  unfolding info_of AllPlaced
  info_placed =
      let part = parts s rs parent l in
      let many = counts s rs parent l in
      let real = reals s rs parent l in
      let number = numbers s rs parent l in
      let date = dates s rs parent l in (
        part _ _,
        (
          part _ _,
          (part _ _, (many _ _, (part _ _, (real _, (number _, (date _, (part _ _, (part _ _, tt)))))))),
        ),
      )

  family_placed : (i : ℕ) → AllPlaced rs (family_fields i rs parent)
  unfolding family_fields AllPlaced
  family_placed i = (members s rs parent l _ _ i, tt)

pub info_addressed : InfoAddressed
info_addressed =
    record {
      info = λ live s start size k. asked_addressed live _ (info_placed s) s start size _ _;
      family = λ live s start size k i.
          listed_addressed live _ (λ rs parent l. family_placed s rs parent l i) s start size _ _ (family_of i);
    }
