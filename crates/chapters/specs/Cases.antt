-- Worked records of Chapters, as one table: a question about a small payload, and the answer. They show the rules of
-- document 01, Records, and of document 02, C-18.
use Rattle.std.specs.Prelude.{ℕ, List, [], ◌∷◌, Bool, true, false, length}
use Rattle.fields_rules.specs.Values.{unset, number, flag, content, iso, ietf, count}
use Rattle.locate_rules.specs.Promise.{answer_of, of_below}
use Rattle.locate_rules.specs.Cases.{numbers, Due, told, refused, Case, case}
use Rattle.chapters.specs.Records.{edition_of, chapter_of, display_of}
use Rattle.chapters.specs.Promise.{edition_asked, chapter_asked, display_asked}

-- The questions, of a whole payload: in live mode or not, the indices, and the answer.
abbrev edition : (live : Bool) → List ℕ → (k : ℕ) → Due → Case
edition live s k a = case (answer_of (of_below (edition_of s)) (edition_asked live s 0 (length s) k numbers)) a

abbrev chapter : (live : Bool) → List ℕ → (k i : ℕ) → Due → Case
chapter live s k i a = case (answer_of (of_below (chapter_of s)) (chapter_asked live s 0 (length s) k i numbers)) a

abbrev display : (live : Bool) → List ℕ → (k i j : ℕ) → Due → Case
display live s k i j a = case (answer_of (of_below (display_of s)) (display_asked live s 0 (length s) k i j numbers)) a

-- An edition whose hidden flag is 2.
abbrev flag_of_two : List ℕ
flag_of_two = 0x45 ∷ 0xB9 ∷ 0x84 ∷ 0x45 ∷ 0xBD ∷ 0x81 ∷ 0x02 ∷ []

-- A chapter that starts at 1 and then at 2, with an atom inside that has another uid and start.
abbrev nested_atom : List ℕ
nested_atom =
    0x45 ∷ 0xB9 ∷ 0x90 ∷ 0xB6 ∷ 0x8E ∷ 0x91 ∷ 0x81 ∷ 0x01 ∷ 0x91 ∷ 0x81 ∷ 0x02 ∷ 0xB6 ∷ 0x86 ∷ 0x73 ∷ 0xC4 ∷ 0x81
    ∷ 0x05 ∷ 0x91 ∷ 0x80 ∷ []

-- Two displays: the first has no string, the second the string A and an ISO 639 language.
abbrev two_displays : List ℕ
two_displays =
    0x45 ∷ 0xB9 ∷ 0x8D ∷ 0xB6 ∷ 0x8B ∷ 0x80 ∷ 0x80 ∷ 0x80 ∷ 0x87 ∷ 0x85 ∷ 0x81 ∷ 0x41 ∷ 0x43 ∷ 0x7C ∷ 0x81 ∷ 0x62
    ∷ []

-- A display with an empty string, and an ISO 639 language behind an IETF one.
abbrev empty_string : List ℕ
empty_string =
    0x45 ∷ 0xB9 ∷ 0x8E ∷ 0xB6 ∷ 0x8C ∷ 0x80 ∷ 0x8A ∷ 0x85 ∷ 0x80 ∷ 0x43 ∷ 0x7D ∷ 0x81 ∷ 0x61 ∷ 0x43 ∷ 0x7C ∷ 0x81
    ∷ 0x62 ∷ []

abbrev pub cases : List Case
cases =
    -- Any number but 0 is yes; a flag that is not there is unset.
    edition false flag_of_two 0 (told (unset ∷ flag true ∷ unset ∷ unset ∷ count 0 ∷ []) 2)
    -- There is no second edition.
    ∷ edition false flag_of_two 1 (refused 15 0 0)
    -- The last child sets a field; an atom inside is passed over.
    ∷ chapter false nested_atom 0 0
    (told (unset ∷ number 2 ∷ unset ∷ unset ∷ unset ∷ unset ∷ unset ∷ count 0 ∷ []) 7)
    ∷ chapter false nested_atom 0 1 (refused 15 0 0)
    -- A set empty string is set; an ISO 639 language never replaces an IETF one.
    ∷ display false empty_string 0 0 0 (told (content 9 0 ∷ ietf 12 1 ∷ []) 6)
    -- The first display has no string; the second has one.
    ∷ display false two_displays 0 0 0 (told (unset ∷ unset ∷ []) 6)
    ∷ display false two_displays 0 0 1 (told (content 11 1 ∷ iso 15 1 ∷ []) 6)
    -- The read's refusals come before 15: here a number of 9 bytes, and no second edition.
    ∷ edition false (0x45 ∷ 0xB9 ∷ 0x83 ∷ 0x45 ∷ 0xBC ∷ 0x89 ∷ []) 1 (refused 4 0 3)
    -- In live mode 17 comes before 15, for an atom of unknown size too; without an unknown size nothing changes.
    ∷ edition true flag_of_two 1 (refused 15 0 0)
    ∷ edition true (0x45 ∷ 0xB9 ∷ 0x82 ∷ 0xB6 ∷ 0xFF ∷ []) 1 (refused 17 0 3)
    ∷ []
