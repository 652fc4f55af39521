-- Worked records of Attachments, as one table: a question about a small payload, and the answer. They show the rules of
-- document 01, Records, and of document 02, C-18.
use Rattle.std.specs.Prelude.{ℕ, List, [], ◌∷◌, Bool, true, false, length}
use Rattle.fields_rules.specs.Values.{unset, content}
use Rattle.locate_rules.specs.Promise.{answer_of, of_below}
use Rattle.locate_rules.specs.Cases.{numbers, Due, told, refused, Case, case}
use Rattle.attachments.specs.Records.{attachment_of}
use Rattle.attachments.specs.Promise.{attachment_asked}

-- The question, of a whole payload: in live mode or not, the index, and the answer.
abbrev attachment : (live : Bool) → List ℕ → ℕ → Due → Case
attachment live s k a = case (answer_of (of_below (attachment_of s)) (attachment_asked live s 0 (length s) k numbers)) a

-- An attached file with a name and one byte of data, behind an empty one.
abbrev two_files : List ℕ
two_files =
    0x61 ∷ 0xA7 ∷ 0x80 ∷ 0x61 ∷ 0xA7 ∷ 0x88 ∷ 0x46 ∷ 0x6E ∷ 0x81 ∷ 0x61 ∷ 0x46 ∷ 0x5C ∷ 0x81 ∷ 0x00 ∷ []

abbrev pub cases : List Case
cases =
    -- Records are counted from 0.
    attachment false two_files 0 (told (unset ∷ unset ∷ unset ∷ unset ∷ []) 4)
    ∷ attachment false two_files 1 (told (unset ∷ content 9 1 ∷ unset ∷ content 13 1 ∷ []) 4)
    -- In live mode an element of unknown size is 17, behind the file that is asked for too; without any, nothing
    -- changes.
    ∷ attachment true two_files 1 (told (unset ∷ content 9 1 ∷ unset ∷ content 13 1 ∷ []) 4)
    ∷ attachment true (0x61 ∷ 0xA7 ∷ 0x80 ∷ 0xEC ∷ 0xFF ∷ []) 0 (refused 17 0 3)
    ∷ attachment false (0x61 ∷ 0xA7 ∷ 0x80 ∷ 0xEC ∷ 0xFF ∷ []) 0 (refused 1 0 3)
    ∷ []
