-- Worked listings as one table: the bytes of a recording, and its listing.
use Rattle.std.specs.Prelude.{ℕ, ◌≡◌, false, List, [], ◌∷◌, ◌++◌}
use Rattle.pages.specs.Text.{ascii}
use Rattle.listing_rules.specs.Listing.{listing_of}

pub data Case : Type 0 where
  lists : List ℕ → List ℕ → Case

-- The 39 bytes of document 01, and what it prints for them.
abbrev tags_behind_a_head : List ℕ
tags_behind_a_head =
    0x18 ∷ 0x53 ∷ 0x80 ∷ 0x67 ∷ 0xA2 ∷ 0x11 ∷ 0x4D ∷ 0x9B ∷ 0x74 ∷ 0x8E ∷ 0x4D ∷ 0xBB ∷ 0x8B ∷ 0x53 ∷ 0xAB ∷ 0x84
    ∷ 0x12 ∷ 0x54 ∷ 0xC3 ∷ 0x67 ∷ 0x53 ∷ 0xAC ∷ 0x81 ∷ 0x13 ∷ 0x12 ∷ 0x54 ∷ 0xC3 ∷ 0x67 ∷ 0x8A ∷ 0x73 ∷ 0x73 ∷ 0x87
    ∷ 0x67 ∷ 0xC8 ∷ 0x84 ∷ 0x45 ∷ 0xA3 ∷ 0x81 ∷ 0x41 ∷ []

abbrev document_listing : List ℕ
document_listing =
    ascii "recording 39\n"
    ++ ascii "part 1654AE6B absent\n"
    ++ ascii "part 1941A469 absent\n"
    ++ ascii "part 1043A770 absent\n"
    ++ ascii "part 1254C367 at 29 size 10 rows 3\n"
    ++ ascii "29 3 7 0 master 7373\n"
    ++ ascii "32 3 4 1 master 67C8\n"
    ++ ascii "35 3 1 2 utf8 45A3\n"

-- No bytes at all.
abbrev empty_listing : List ℕ
empty_listing =
    ascii "recording 0\n"
    ++ ascii "part 1654AE6B refused 1 0\n"
    ++ ascii "part 1941A469 refused 1 0\n"
    ++ ascii "part 1043A770 refused 1 0\n"
    ++ ascii "part 1254C367 refused 1 0\n"

-- An entry for a further head whose address exceeds 2^64-1: 8 is shown without its id, at the one head.
abbrev too_far : List ℕ
too_far =
    0x18 ∷ 0x53 ∷ 0x80 ∷ 0x67 ∷ 0x9A ∷ 0x11 ∷ 0x4D ∷ 0x9B ∷ 0x74 ∷ 0x95 ∷ 0x4D ∷ 0xBB ∷ 0x92 ∷ 0x53 ∷ 0xAB ∷ 0x84
    ∷ 0x11 ∷ 0x4D ∷ 0x9B ∷ 0x74 ∷ 0x53 ∷ 0xAC ∷ 0x88 ∷ 0xFF ∷ 0xFF ∷ 0xFF ∷ 0xFF ∷ 0xFF ∷ 0xFF ∷ 0xFF ∷ 0xFF ∷ []

abbrev too_far_listing : List ℕ
too_far_listing =
    ascii "recording 31\n"
    ++ ascii "part 1654AE6B refused 8 5\n"
    ++ ascii "part 1941A469 refused 8 5\n"
    ++ ascii "part 1043A770 refused 8 5\n"
    ++ ascii "part 1254C367 refused 8 5\n"

abbrev pub Holds : Case → Type 0
Holds (lists s text) = listing_of false s ≡ text

abbrev pub Hold : List Case → Type 0
Hold [] = Unit
Hold (c ∷ cs) = Holds c × Hold cs

abbrev pub cases : List Case
cases =
    lists tags_behind_a_head document_listing
    ∷ lists [] empty_listing
    ∷ lists too_far too_far_listing
    ∷ []
