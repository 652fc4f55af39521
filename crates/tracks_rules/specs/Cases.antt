-- Worked tracks, as one table: a question about a small payload, and the answer. They show the rules of document 01,
-- Records, and of document 02, C-11 and C-18.
use Rattle.std.specs.Prelude.{ℕ, List, [], ◌∷◌, Bool, true, false, length}
use Rattle.std.specs.Float.{binary64}
use Rattle.std.specs.Float.Ieee.{of_bits}
use Rattle.fields_rules.specs.Values.{FieldValue, unset, number, flag, content, iso, ietf, real}
use Rattle.locate_rules.specs.Promise.{answer_of}
use Rattle.locate_rules.specs.Cases.{numbers, Due, told, refused, Case, case}
use Rattle.tracks_rules.specs.Records.{track_of}
use Rattle.tracks_rules.specs.Promise.{track_asked}

-- The question, of a whole payload: in live mode or not, the index, and the answer.
abbrev track : (live : Bool) → List ℕ → ℕ → Due → Case
track live s k a = case (answer_of (track_of s) (track_asked live s 0 (length s) k numbers)) a

-- A track of which few fields are set.
abbrev few : (n type enabled name language : FieldValue) → List FieldValue → List FieldValue
few n type enabled name language settings =
    n ∷ unset ∷ type ∷ enabled ∷ unset ∷ unset ∷ unset ∷ unset ∷ unset ∷ unset ∷ unset ∷ unset ∷ unset ∷ name
    ∷ language ∷ unset ∷ unset ∷ unset ∷ settings

abbrev bare : List FieldValue
bare = few unset unset unset unset unset (unset ∷ [])

-- Video settings: interlaced, stereo mode and gamma.
abbrev video : (interlaced stereo gamma : FieldValue) → List FieldValue
video interlaced stereo gamma =
    number 1 ∷ unset ∷ unset ∷ unset ∷ unset ∷ interlaced ∷ stereo ∷ gamma ∷ []

-- The entries: an empty one, and one with the track number 1 and then 2, type 17, enabled 2 and the name A.
abbrev two_entries : List ℕ
two_entries =
    0xAE ∷ 0x80 ∷ 0xAE ∷ 0x90 ∷ 0xD7 ∷ 0x81 ∷ 0x01 ∷ 0xD7 ∷ 0x81 ∷ 0x02 ∷ 0x83 ∷ 0x81 ∷ 0x11 ∷ 0xB9 ∷ 0x81 ∷ 0x02
    ∷ 0x53 ∷ 0x6E ∷ 0x81 ∷ 0x41 ∷ []

-- Type 4, and an ISO 639 language behind an IETF one.
abbrev languages : List ℕ
languages =
    0xAE ∷ 0x8D ∷ 0x83 ∷ 0x81 ∷ 0x04 ∷ 0x22 ∷ 0xB5 ∷ 0x9D ∷ 0x81 ∷ 0x61 ∷ 0x22 ∷ 0xB5 ∷ 0x9C ∷ 0x81 ∷ 0x62 ∷ []

-- Audio settings with 2 channels, behind and before video settings with interlaced 2, mode 14 and a gamma of 1.0.
abbrev channels : List ℕ → List ℕ
channels more = 0xE1 ∷ 0x83 ∷ 0x9F ∷ 0x81 ∷ 0x02 ∷ more

abbrev frames : List ℕ → List ℕ
frames more =
    0xE0 ∷ 0x8F ∷ 0x9A ∷ 0x81 ∷ 0x02 ∷ 0x53 ∷ 0xB8 ∷ 0x81 ∷ 0x0E ∷ 0x2F ∷ 0xB5 ∷ 0x23 ∷ 0x84 ∷ 0x3F ∷ 0x80 ∷ 0x00
    ∷ 0x00 ∷ more

-- Interlaced 0 and mode 15.
abbrev others : List ℕ
others = 0xAE ∷ 0x89 ∷ 0xE0 ∷ 0x87 ∷ 0x9A ∷ 0x81 ∷ 0x00 ∷ 0x53 ∷ 0xB8 ∷ 0x81 ∷ 0x0F ∷ []

-- The flags 55AB to 55AF, all 1.
abbrev unread : List ℕ
unread =
    0xAE ∷ 0x94 ∷ 0x55 ∷ 0xAB ∷ 0x81 ∷ 0x01 ∷ 0x55 ∷ 0xAC ∷ 0x81 ∷ 0x01 ∷ 0x55 ∷ 0xAD ∷ 0x81 ∷ 0x01 ∷ 0x55 ∷ 0xAE
    ∷ 0x81 ∷ 0x01 ∷ 0x55 ∷ 0xAF ∷ 0x81 ∷ 0x01 ∷ []

-- An entry with uid 3, default 0, forced 1, lacing 0, a duration of 4, an ISO 639 language, codec id, codec private and
-- codec name, and video settings with the sizes 5, 6, 7 and 8 and interlaced 1.
abbrev full : List ℕ
full =
    0xAE ∷ 0xB8 ∷ 0x73 ∷ 0xC5 ∷ 0x81 ∷ 0x03 ∷ 0x88 ∷ 0x81 ∷ 0x00 ∷ 0x55 ∷ 0xAA ∷ 0x81 ∷ 0x01 ∷ 0x9C ∷ 0x81 ∷ 0x00
    ∷ 0x23 ∷ 0xE3 ∷ 0x83 ∷ 0x81 ∷ 0x04 ∷ 0x22 ∷ 0xB5 ∷ 0x9C ∷ 0x81 ∷ 0x65 ∷ 0x86 ∷ 0x81 ∷ 0x56 ∷ 0x63 ∷ 0xA2 ∷ 0x82
    ∷ 0xFF ∷ 0x00 ∷ 0x25 ∷ 0x86 ∷ 0x88 ∷ 0x81 ∷ 0x43 ∷ 0xE0 ∷ 0x91 ∷ 0xB0 ∷ 0x81 ∷ 0x05 ∷ 0xBA ∷ 0x81 ∷ 0x06 ∷ 0x54
    ∷ 0xB0 ∷ 0x81 ∷ 0x07 ∷ 0x54 ∷ 0xBA ∷ 0x81 ∷ 0x08 ∷ 0x9A ∷ 0x81 ∷ 0x01 ∷ []

abbrev full_values : List FieldValue
full_values =
    unset ∷ number 3 ∷ unset ∷ unset ∷ flag false ∷ flag true ∷ unset ∷ unset ∷ unset ∷ unset ∷ unset ∷ flag false
    ∷ number 4 ∷ unset ∷ iso 25 1 ∷ content 28 1 ∷ content 32 2 ∷ content 38 1 ∷ number 1 ∷ number 5
    ∷ number 6 ∷ number 7 ∷ number 8 ∷ flag true ∷ unset ∷ unset ∷ []

-- Two E0, the first with a width of 5, and an entry inside the entry, with the track number 9.
abbrev two_videos : List ℕ
two_videos =
    0xAE ∷ 0x8C ∷ 0xE0 ∷ 0x83 ∷ 0xB0 ∷ 0x81 ∷ 0x05 ∷ 0xAE ∷ 0x83 ∷ 0xD7 ∷ 0x81 ∷ 0x09 ∷ 0xE0 ∷ 0x80 ∷ []

abbrev pub cases : List Case
cases =
    -- An entry without fields has none set.
    track false two_entries 0 (told bare 7)
    -- The last child sets a field; any number but 0 is yes.
    ∷ track false two_entries 1 (told (few (number 2) (number 17) (flag true) (content 19 1) unset (unset ∷ [])) 7)
    ∷ track false two_entries 2 (refused 15 0 0)
    -- Any other number is the type Unknown; an ISO 639 language never replaces an IETF one.
    ∷ track false languages 0 (told (few unset (number 0) unset unset (ietf 9 1) (unset ∷ [])) 4)
    -- The last settings count, whichever they are.
    ∷ track false (0xAE ∷ 0x96 ∷ frames (channels [])) 0
    (told (few unset unset unset unset unset (number 2 ∷ unset ∷ number 2 ∷ unset ∷ [])) 7)
    ∷ track false (0xAE ∷ 0x96 ∷ channels (frames [])) 0
    (told
    (few unset unset unset unset unset
    (video (flag false) (number 14) (real (of_bits binary64 0x3FF0000000000000)))) 7)
    -- Interlaced other than 1 and 2, and a mode over 14, stay unset.
    ∷ track false others 0 (told (few unset unset unset unset unset (video unset unset unset)) 4)
    -- The flags 55AB to 55AF stay unset; their rows are there.
    ∷ track false unread 0 (told bare 6)
    -- Each field is taken from its own id.
    ∷ track false full 0 (told full_values 16)
    -- What an earlier E0 held is not kept; an entry inside an entry is none of Tracks, and sets nothing.
    ∷ track false two_videos 0 (told (few unset unset unset unset unset (video unset unset unset)) 6)
    ∷ track false two_videos 1 (refused 15 0 0)
    -- The full set of masters holds for the direct children of Tracks: an E0 there has a row below it.
    ∷ track false (0xE0 ∷ 0x83 ∷ 0xB0 ∷ 0x81 ∷ 0x05 ∷ 0xAE ∷ 0x80 ∷ []) 0 (told bare 3)
    -- The read's refusals come before 15: here a number of 9 bytes, and no second entry.
    ∷ track false (0xAE ∷ 0x82 ∷ 0xD7 ∷ 0x89 ∷ []) 1 (refused 4 0 2)
    -- In live mode settings of unknown size are 17; without an unknown size nothing changes.
    ∷ track true (0xAE ∷ 0x82 ∷ 0xE0 ∷ 0xFF ∷ []) 0 (refused 17 0 2)
    ∷ track true unread 0 (told bare 6)
    ∷ []
