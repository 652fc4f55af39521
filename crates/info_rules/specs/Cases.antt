-- Worked records of Info, as one table: a question about a small payload, and the answer. They show the rules of
-- document 01, Records, and of document 02, C-14 and C-18.
use Rattle.std.specs.Prelude.{ℕ, List, [], ◌∷◌, Bool, true, false, length, pos, negsuc}
use Rattle.std.specs.Float.{binary64}
use Rattle.std.specs.Float.Ieee.{of_bits}
use Rattle.fields_rules.specs.Values.{FieldValue, unset, number, content, real, date, count}
use Rattle.locate_rules.specs.Promise.{answer_of, of_below}
use Rattle.locate_rules.specs.Cases.{numbers, Due, told, refused, Case, case}
use Rattle.info_rules.specs.Records.{info_of, family_fields}
use Rattle.info_rules.specs.Promise.{info_asked, family_asked}

-- The questions, of a whole payload: in live mode or not, the indices, and the answer.
abbrev info : (live : Bool) → List ℕ → ℕ → Due → Case
info live s k a = case (answer_of (of_below (info_of s)) (info_asked live s 0 (length s) k numbers)) a

abbrev family : (live : Bool) → List ℕ → (k i : ℕ) → Due → Case
family live s k i a = case (answer_of (family_fields i) (family_asked live s 0 (length s) k i numbers)) a

-- The fields where only these may be set.
abbrev few : (families : ℕ) → (title duration scale day : FieldValue) → List FieldValue
few families title duration scale day =
    unset ∷ unset ∷ unset ∷ count families ∷ title ∷ duration ∷ scale ∷ day ∷ unset ∷ unset ∷ []

abbrev none : List FieldValue
none = few 0 unset unset unset unset

-- An E0 of one byte, which is a master elsewhere.
abbrev binary_e0 : List ℕ
binary_e0 = 0xE0 ∷ 0x81 ∷ 0x00 ∷ []

-- Two families, of one byte and of none.
abbrev two_families : List ℕ
two_families = 0x44 ∷ 0x44 ∷ 0x81 ∷ 0x07 ∷ 0x44 ∷ 0x44 ∷ 0x80 ∷ []

-- Two titles, a duration of 1.0 in 4 bytes, a scale of 2.
abbrev two_titles : List ℕ
two_titles =
    0x7B ∷ 0xA9 ∷ 0x81 ∷ 0x41
    ∷ 0x7B ∷ 0xA9 ∷ 0x80
    ∷ 0x44 ∷ 0x89 ∷ 0x84 ∷ 0x3F ∷ 0x80 ∷ 0x00 ∷ 0x00
    ∷ 0x2A ∷ 0xD7 ∷ 0xB1 ∷ 0x81 ∷ 0x02
    ∷ []

-- Each uid, and both apps.
abbrev ends : List ℕ
ends =
    0x73 ∷ 0xA4 ∷ 0x81 ∷ 0x01
    ∷ 0x3C ∷ 0xB9 ∷ 0x23 ∷ 0x81 ∷ 0x02
    ∷ 0x3E ∷ 0xB9 ∷ 0x23 ∷ 0x80
    ∷ 0x4D ∷ 0x80 ∷ 0x81 ∷ 0x61
    ∷ 0x57 ∷ 0x41 ∷ 0x82 ∷ 0x62 ∷ 0x63
    ∷ []

-- A date whose 8 bytes end in this one, behind seven of another.
abbrev dated : (fill last : ℕ) → List ℕ
dated fill last =
    0x44 ∷ 0x61 ∷ 0x88 ∷ fill ∷ fill ∷ fill ∷ fill ∷ fill ∷ fill ∷ fill ∷ last ∷ []

-- A chapter translation, the one master that Info has, with a title and a family inside.
abbrev inner : List ℕ
inner = 0x69 ∷ 0x24 ∷ 0x86 ∷ 0x7B ∷ 0xA9 ∷ 0x80 ∷ 0x44 ∷ 0x44 ∷ 0x80 ∷ []

abbrev pub cases : List Case
cases =
    -- The small set of masters holds for the direct children: an E0 is binary, and its payload is not read.
    info false binary_e0 0 (told none 1)
    -- An empty payload is a record; k is 0, else 15, after the read's refusals.
    ∷ info false [] 0 (told none 0)
    ∷ info false [] 1 (refused 15 0 0)
    ∷ info false (0x2A ∷ 0xD7 ∷ 0xB1 ∷ 0x89 ∷ []) 1 (refused 4 0 0)
    -- Families are counted, and told one by one.
    ∷ info false two_families 0 (told (few 2 unset unset unset unset) 2)
    ∷ family false two_families 0 0 (told (content 3 1 ∷ []) 2)
    ∷ family false two_families 0 1 (told (content 7 0 ∷ []) 2)
    ∷ family false two_families 0 2 (refused 15 0 0)
    ∷ family false two_families 1 0 (refused 15 0 0)
    -- The last title wins; the duration stays a float, with the scale beside it.
    ∷ info false two_titles 0
    (told (few 0 (content 7 0) (real (of_bits binary64 0x3FF0000000000000)) (number 2) unset) 4)
    -- A duration or a scale of 0 is not refused.
    ∷ info false (0x44 ∷ 0x89 ∷ 0x84 ∷ 0x00 ∷ 0x00 ∷ 0x00 ∷ 0x00 ∷ 0x2A ∷ 0xD7 ∷ 0xB1 ∷ 0x80 ∷ []) 0
    (told (few 0 unset (real (of_bits binary64 0)) (number 0) unset) 2)
    -- Each field is taken from its own id.
    ∷ info false ends 0
    (told
    (content 3 1
    ∷ content 8 1
    ∷ content 13 0
    ∷ count 0
    ∷ unset
    ∷ unset
    ∷ unset
    ∷ unset
    ∷ content 16 1
    ∷ content 20 2
    ∷ [])
    5)
    -- A date is signed.
    ∷ info false (dated 0x00 0x05) 0 (told (few 0 unset unset unset (date (pos 5))) 1)
    ∷ info false (dated 0xFF 0xFE) 0 (told (few 0 unset unset unset (date (negsuc 1))) 1)
    -- What stands in a master of Info is no field of it, and no family.
    ∷ info false inner 0 (told none 3)
    ∷ family false inner 0 0 (refused 15 0 0)
    -- In live mode 17 comes before 15; without an unknown size nothing changes.
    ∷ info true two_families 0 (told (few 2 unset unset unset unset) 2)
    ∷ info true (0x44 ∷ 0x44 ∷ 0xFF ∷ []) 1 (refused 17 0 0)
    ∷ family true (0x44 ∷ 0x44 ∷ 0x80 ∷ 0x7B ∷ 0xA9 ∷ 0xFF ∷ []) 0 0 (refused 17 0 3)
    ∷ family false (0x44 ∷ 0x44 ∷ 0x80 ∷ 0x7B ∷ 0xA9 ∷ 0xFF ∷ []) 0 0 (refused 1 0 3)
    ∷ []
