-- Worked records of Tags, as one table: a question about a small payload, and the answer. They show the rules of
-- document 01, Records, and of document 02, C-18.
use Rattle.std.specs.Prelude.{ℕ, List, [], ◌∷◌, Bool, true, false, length}
use Rattle.fields_rules.specs.Values.{unset, number, flag, text, binary, count}
use Rattle.locate_rules.specs.Promise.{answer_of, of_below}
use Rattle.locate_rules.specs.Cases.{numbers, Due, told, refused, Case, case}
use Rattle.tags_rules.specs.Records.{tag_of, uid_of, simple_of}
use Rattle.tags_rules.specs.Promise.{tag_asked, uid_asked, simple_asked}
use Rattle.tags_rules.specs.declared.uid.UidList.{UidList}
use Rattle.tags_rules.specs.declared.uid.UidList.TheVariants.{Track}

-- The questions, of a whole payload: in live mode or not, the indices, and the answer.
abbrev tag : (live : Bool) → List ℕ → (k : ℕ) → Due → Case
tag live s k a = case (answer_of (tag_of s) (tag_asked live s 0 (length s) k numbers)) a

abbrev uid : (live : Bool) → List ℕ → (k : ℕ) → UidList → (i : ℕ) → Due → Case
uid live s k list i a = case (answer_of (uid_of s list i) (uid_asked live s 0 (length s) k list i numbers)) a

abbrev simple : (live : Bool) → List ℕ → (k i : ℕ) → Due → Case
simple live s k i a = case (answer_of (of_below (simple_of s)) (simple_asked live s 0 (length s) k i numbers)) a

-- A tag with two Targets: the first has a track uid, the last is empty.
abbrev two_targets : List ℕ
two_targets = 0x73 ∷ 0x73 ∷ 0x8A ∷ 0x63 ∷ 0xC0 ∷ 0x84 ∷ 0x63 ∷ 0xC5 ∷ 0x81 ∷ 0x01 ∷ 0x63 ∷ 0xC0 ∷ 0x80 ∷ []

-- A tag with two track uids.
abbrev two_uids : List ℕ
two_uids =
    0x73 ∷ 0x73 ∷ 0x8B ∷ 0x63 ∷ 0xC0 ∷ 0x88 ∷ 0x63 ∷ 0xC5 ∷ 0x81 ∷ 0x07 ∷ 0x63 ∷ 0xC5 ∷ 0x81 ∷ 0x08 ∷ []

-- A simple tag with bytes and then a text.
abbrev bytes_then_text : List ℕ
bytes_then_text = 0x73 ∷ 0x73 ∷ 0x8A ∷ 0x67 ∷ 0xC8 ∷ 0x87 ∷ 0x44 ∷ 0x85 ∷ 0x81 ∷ 0x00 ∷ 0x44 ∷ 0x87 ∷ 0x80 ∷ []

-- A simple tag with a text and then bytes.
abbrev text_then_bytes : List ℕ
text_then_bytes = 0x73 ∷ 0x73 ∷ 0x8A ∷ 0x67 ∷ 0xC8 ∷ 0x87 ∷ 0x44 ∷ 0x87 ∷ 0x80 ∷ 0x44 ∷ 0x85 ∷ 0x81 ∷ 0x00 ∷ []

abbrev pub cases : List Case
cases =
    -- Only the last Targets counts: no track uids, and no member.
    tag false two_targets 0
    (told (flag true ∷ unset ∷ unset ∷ count 0 ∷ count 0 ∷ count 0 ∷ count 0 ∷ count 0 ∷ []) 4)
    ∷ uid false two_targets 0 Track 0 (refused 15 0 0)
    -- The members of a list in their order.
    ∷ uid false two_uids 0 Track 0 (told (number 7 ∷ []) 4)
    ∷ uid false two_uids 0 Track 1 (told (number 8 ∷ []) 4)
    -- A list member of a tag without Targets.
    ∷ tag false bytes_then_text 0 (told (flag false ∷ count 1 ∷ []) 4)
    ∷ uid false bytes_then_text 0 Track 0 (refused 15 0 0)
    -- The last of a text and bytes is the value.
    ∷ simple false bytes_then_text 0 0 (told (unset ∷ unset ∷ unset ∷ text 13 0 ∷ []) 4)
    ∷ simple false text_then_bytes 0 0 (told (unset ∷ unset ∷ unset ∷ binary 12 1 ∷ []) 4)
    -- In live mode 17 comes before 15; without an unknown size nothing changes.
    ∷ uid true two_uids 0 Track 1 (told (number 8 ∷ []) 4)
    ∷ uid true (0x73 ∷ 0x73 ∷ 0x83 ∷ 0x63 ∷ 0xC0 ∷ 0xFF ∷ []) 0 Track 0 (refused 17 0 3)
    ∷ []
