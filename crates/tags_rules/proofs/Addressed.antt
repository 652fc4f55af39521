-- Every address in a record is the payload's place of a row of the table (`TagsAddressed`). Assumes nothing.
use Prim.Native.Nat.{ℕ, suc, ◌≤◌}
use mathlib.Core.Path.{◌≡◌, refl, sym}
use mathlib.Core.List.{List, [], ◌∷◌, ◌++◌}
use lib.ListN.{length}
use Rattle.kinds.specs.declared.kind.Kind.TheVariants.{Master}
use Rattle.elements_rules.specs.declared.row.Row.{Row}
use Rattle.fields_rules.specs.Children.{subtree, children, last_of}
use Rattle.fields_rules.specs.Values.{FieldValue}
use Rattle.fields_rules.specs.Fields.{count_of}
use Rattle.locate_rules.specs.Theorems.{AllPlaced}
use Rattle.locate_rules.proofs.Ways.{last_known}
use Rattle.locate_rules.proofs.Addressed.{numbers, flags, parts, languages, values, counts, number_placed}
use Rattle.locate_rules.proofs.Addressed.{asked_addressed, listed_addressed}
use Rattle.tags_rules.specs.Records.{target_of, targets_in, targets_of, tag_of, member_of, uid_of, simple_of}
use Rattle.tags_rules.specs.Theorems.{TagsAddressed}
use Rattle.std.proofs.Common.{Option, Some, None}

module _ (s : List ℕ) (rs : List Row) (parent : ℕ) (l : parent ≤ length rs) where
  simple_placed : AllPlaced rs (simple_of s parent (subtree rs parent))
  unfolding simple_of AllPlaced
  simple_placed =
      let flag = flags s rs parent l in
      let part = parts s rs parent l in
      let language = languages s rs parent l in
      let value = values s rs parent l in
      (part _ _, (language _ _, (flag _, (value _ _, tt))))

  target_placed : (vs : List FieldValue) → AllPlaced rs vs → AllPlaced rs (target_of s parent (subtree rs parent) ++ vs)
  unfolding target_of AllPlaced
  target_placed vs p =
      let many = counts s rs parent l in
      (numbers s rs parent l _, (parts s rs parent l _ _, (many _ _, (many _ _, (many _ _, (many _ _, p))))))

module _ (s : List ℕ) (rs : List Row) (parent : ℕ) (l : parent ≤ length rs) where
  tag_placed : AllPlaced rs (tag_of s rs parent)
  unfolding tag_of targets_of AllPlaced
  tag_placed = go (last_of (children parent 0x63C0 Master (subtree rs parent))) refl
    where
      go : (c : Option (ℕ × Row)) → last_of (children parent 0x63C0 Master (subtree rs parent)) ≡ c
          → AllPlaced rs (targets_in s rs parent c ++ (count_of s parent (subtree rs parent) 0x67C8 Master ∷ []))
      go None e = (tt, (counts s rs parent l _ _, tt))
      go (Some (n, r)) e = (
        tt,
        target_placed s rs (suc n) (last_known rs parent 0x63C0 Master l n r (sym e)) _
            (counts s rs parent l _ _, tt),
      )

pub tags_addressed : TagsAddressed
unfolding AllPlaced uid_of
tags_addressed =
    record {
      tag = λ live s start size k. asked_addressed live _ (tag_placed s) s start size _ _;
      uid = λ live s start size k list i.
          listed_addressed live _ (λ rs parent l. (number_placed s rs parent l (member_of list i rs parent), tt)) s
          start size _ _ (member_of list i);
      simple = λ live s start size k i. asked_addressed live _ (simple_placed s) s start size _ _;
    }
