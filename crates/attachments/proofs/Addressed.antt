-- Every address in a record is the payload's place of a row of the table (`AttachmentsAddressed`). Assumes nothing.
use Prim.Native.Nat.{ℕ, ◌≤◌}
use mathlib.Core.List.{List}
use lib.ListN.{length}
use Rattle.elements_rules.specs.declared.row.Row.{Row}
use Rattle.fields_rules.specs.Children.{subtree}
use Rattle.locate_rules.specs.Theorems.{AllPlaced}
use Rattle.locate_rules.proofs.Addressed.{parts, asked_addressed}
use Rattle.attachments.specs.Records.{attachment_of}
use Rattle.attachments.specs.Theorems.{AttachmentsAddressed}

module _ (s : List ℕ) (rs : List Row) (parent : ℕ) (l : parent ≤ length rs) where
  attachment_placed : AllPlaced rs (attachment_of s parent (subtree rs parent))
  unfolding attachment_of AllPlaced
  attachment_placed =
      let part = parts s rs parent l in
      (part _ _, (part _ _, (part _ _, (part _ _, tt))))

pub attachments_addressed : AttachmentsAddressed
attachments_addressed =
    record {
      attachment = λ live s start size k. asked_addressed live _ (attachment_placed s) s start size _ _;
    }
