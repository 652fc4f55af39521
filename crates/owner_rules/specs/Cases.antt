-- Worked questions and their replies, as one table: those that document 02, C-16 and C-18, turn on.
use Rattle.std.specs.Prelude.{ℕ, ◌^◌, ◌-◌, ◌≡◌, List, [], ◌∷◌, true, false}
use Rattle.refusals.specs.Reply.{ByNumber, given, refused, by_number}
use Rattle.elements_rules.specs.Cases.{nested}
use Rattle.owner_rules.specs.Owner.{Owned, Side, header, payload, owner_of}

-- The bytes, start, size and parent of a payload in them, an address, and the reply.
pub data Case : Type 0 where
  case : List ℕ → (start size parent x : ℕ) → ByNumber Owned → Case
  -- the same in live mode
  case_live : List ℕ → (start size parent x : ℕ) → ByNumber Owned → Case

abbrev pub Holds : Case → Type 0
Holds (case s start size parent x reply) = by_number (owner_of false s start size parent x) ≡ reply
Holds (case_live s start size parent x reply) = by_number (owner_of true s start size parent x) ≡ reply

-- Every case of a table holds.
abbrev pub Hold : List Case → Type 0
Hold [] = Unit
Hold (c ∷ cases) = Holds c × Hold cases

abbrev is : Side → (address : ℕ) → List ℕ → ByNumber Owned
is part address masters = given (record { side = part; address = address; masters = masters })

-- A refusal's number and address.
abbrev breaks : (number address : ℕ) → ByNumber Owned
breaks number address = refused number 0 address

abbrev pub cases : List Case
cases =
    -- 3 for an element that passes its master's end, before the address is looked for
    case (0xEC ∷ 0x82 ∷ 0x00 ∷ []) 0 2 0 0 (breaks 3 0)
    ∷ case (0xA0 ∷ 0x83 ∷ 0x0F ∷ 0x80 ∷ 0xEC ∷ []) 0 4 0 2 (breaks 3 0)
    -- no body is looked at, and its bytes need not exist
    ∷ case (0x45 ∷ 0xA3 ∷ 0x81 ∷ 0xFF ∷ []) 0 4 0 3 (is payload 0 [])
    ∷ case (0xEC ∷ 0x84 ∷ 0x00 ∷ []) 0 6 0 5 (is payload 0 [])
    -- it stops at the address
    ∷ case (0xEC ∷ 0x80 ∷ 0x00 ∷ []) 0 3 0 0 (is header 0 [])
    ∷ case (0xEC ∷ 0x80 ∷ 0x00 ∷ []) 0 3 0 2 (breaks 1 2)
    -- a header that is refused
    ∷ case (0xEC ∷ 0x80 ∷ 0x0F ∷ 0x80 ∷ []) 0 4 0 3 (breaks 2 2)
    ∷ case (0xEC ∷ 0x00 ∷ 0x01 ∷ []) 0 3 0 0 (breaks 3 0)
    -- a byte of a tag's name, in the tag, from the file's start on; and one past the last element
    ∷ case (0x67 ∷ 0xC8 ∷ 0x84 ∷ 0x45 ∷ 0xA3 ∷ 0x81 ∷ 0x41 ∷ []) 0 (2 ^ 64 - 1) 0 6 (is payload 3 (0 ∷ []))
    ∷ case (0x67 ∷ 0xC8 ∷ 0x84 ∷ 0x45 ∷ 0xA3 ∷ 0x81 ∷ 0x41 ∷ []) 0 (2 ^ 64 - 1) 0 7 (breaks 1 7)
    -- the small set of a parent: below Tracks E0 is no master
    ∷ case (0xE0 ∷ 0x82 ∷ 0xEC ∷ 0x80 ∷ []) 0 4 0x1654AE6B 2 (is payload 0 [])
    ∷ case (0xE0 ∷ 0x82 ∷ 0xEC ∷ 0x80 ∷ []) 0 4 0xAE 2 (is header 2 (0 ∷ []))
    -- depth 15 holds an address; depth 16 is refused, behind a bad header and before an overrun
    ∷ case (nested 15 2 (0xEC ∷ 0x80 ∷ [])) 0 32 0 31
    (is header 30 (0 ∷ 2 ∷ 4 ∷ 6 ∷ 8 ∷ 10 ∷ 12 ∷ 14 ∷ 16 ∷ 18 ∷ 20 ∷ 22 ∷ 24 ∷ 26 ∷ 28 ∷ []))
    ∷ case (nested 16 2 (0xEC ∷ 0x80 ∷ [])) 0 34 0 33 (breaks 12 32)
    ∷ case (nested 16 2 (0xEC ∷ 0x81 ∷ [])) 0 34 0 33 (breaks 12 32)
    ∷ case (nested 16 2 (0x0F ∷ 0x80 ∷ [])) 0 34 0 33 (breaks 2 32)
    ∷ case (nested 16 2 (0xEC ∷ 0x80 ∷ [])) 0 34 0 31 (is header 30
    (0 ∷ 2 ∷ 4 ∷ 6 ∷ 8 ∷ 10 ∷ 12 ∷ 14 ∷ 16 ∷ 18 ∷ 20 ∷ 22 ∷ 24 ∷ 26 ∷ 28 ∷ []))
    -- 14, then 15
    ∷ case (0xEC ∷ 0x80 ∷ []) 3 1 0 0 (breaks 14 0)
    ∷ case (0xEC ∷ 0x80 ∷ []) 2 1 0 0 (breaks 15 0)
    -- in live mode an unknown size is 17, before 12 and before 3, and before the address is looked for; in old mode it
    -- is a number
    ∷ case_live (nested 16 2 (0xEC ∷ 0xFF ∷ [])) 0 34 0 33 (breaks 17 32)
    ∷ case (nested 16 2 (0xEC ∷ 0xFF ∷ [])) 0 34 0 33 (breaks 12 32)
    ∷ case_live (0xEC ∷ 0xFF ∷ []) 0 2 0 0 (breaks 17 0)
    ∷ case (0xEC ∷ 0xFF ∷ []) 0 2 0 0 (breaks 3 0)
    ∷ case_live (0xEC ∷ 0xFF ∷ []) 0 129 0 0 (breaks 17 0)
    ∷ case (0xEC ∷ 0xFF ∷ []) 0 129 0 0 (is header 0 [])
    ∷ case_live (0xEC ∷ 0x40 ∷ 0x7F ∷ []) 0 130 0 129 (is payload 0 [])
    -- a Cluster's and a Segment's too; a header that is refused is refused as before
    ∷ case_live (0x1F ∷ 0x43 ∷ 0xB6 ∷ 0x75 ∷ 0xFF ∷ []) 0 (2 ^ 64 - 1) 0 0 (breaks 17 0)
    ∷ case_live (0xEC ∷ 0x80 ∷ 0x18 ∷ 0x53 ∷ 0x80 ∷ 0x67 ∷ 0x7F ∷ 0xFF ∷ []) 0 (2 ^ 64 - 1) 0 8 (breaks 17 2)
    ∷ case_live (0x0F ∷ 0xFF ∷ []) 0 2 0 0 (breaks 2 0)
    -- one behind the address, or in the payload of a master that is skipped, does not matter
    ∷ case_live (0xEC ∷ 0x80 ∷ 0xEC ∷ 0xFF ∷ []) 0 4 0 1 (is header 0 [])
    ∷ case_live (0xA0 ∷ 0x82 ∷ 0xEC ∷ 0xFF ∷ 0xEC ∷ 0x80 ∷ []) 0 6 0 4 (is header 4 [])
    ∷ case_live (0xA0 ∷ 0x82 ∷ 0xEC ∷ 0xFF ∷ 0xEC ∷ 0x80 ∷ []) 0 6 0 2 (breaks 17 2)
    ∷ []
