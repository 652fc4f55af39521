-- What the question for an attached file promises of its reply and of the table.
use Rattle.std.specs.Prelude.{ℕ, List, Bool, length}
use Rattle.locate_rules.specs.Steps.{way}
use Rattle.locate_rules.specs.Asked.{Asked, asked}
use Rattle.locate_rules.specs.Promise.{RecordPromise, of_below}
use Rattle.locate_rules.specs.declared.steps.Step.TheVariants.{Here, Nth}
use Rattle.attachments.specs.Records.{attachment_of}
use Rattle.attachments.specs.Told.{attachment_told}
use Rattle.std.specs.Prelude.{Result}
use Rattle.attachments.specs.declared.attachment.Attachment.{Attachment}
use Rattle.refusals.specs.declared.refusal.Refusal.{Refusal}

-- ---- the questions, with a table of so many numbers

-- The payload is read under 61A7, the id that document 01, Kinds, gives for Attachments, so that the full set of
-- masters holds for its direct children.
module _ (live : Bool) (s : List ℕ) (start size k : ℕ) where
  abbrev pub attachment_asked : (numbers : ℕ) → Asked
  attachment_asked numbers = asked live s start size 0x61A7 numbers (way (Nth 0x61A7 k) Here Here)

-- ---- the promises

abbrev pub AttachmentPromise :
    (live : Bool) (s : List ℕ) (start size k : ℕ) (t : List ℕ) (r : Result (Attachment × ℕ) Refusal) (t' : List ℕ) → Type 0
AttachmentPromise live s start size k t r t' =
    RecordPromise (of_below (attachment_of s)) (attachment_asked live s start size k (length t)) (length t)
    (attachment_told r) t'
