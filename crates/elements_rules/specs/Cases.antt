-- Document 01's cases that are to be proved, as one table (Cases, P1 to P12): what is asked of the bytes, and the
-- reply. And small reads that are refused, each at an address of its own sort (document 02, C-12; C-18).
use Rattle.std.specs.Prelude.{ℕ, zero, suc, ◌+◌, ◌^◌, ◌-◌, ◌*◌, ◌≡◌, List, [], ◌∷◌, true, false, length, pos, negsuc}
use Rattle.refusals.specs.Refusals.{because}
use Rattle.refusals.specs.Reply.{Reply, refusal, ByNumber, given, refused, by_number}
use Rattle.header.specs.Header.{Heading, heading, header_of}
use Rattle.header.specs.Header.{refused as refused_header}
use Rattle.header.specs.Promise.{header_reply}
use Rattle.header.specs.declared.cursor.Header.{Header}
use Rattle.bodies_rules.specs.Promise.{body_reply}
use Rattle.bodies_rules.specs.declared.body.Body.{Body}
use Rattle.bodies_rules.specs.declared.body.Body.TheVariants.{Value}
use Rattle.bodies_rules.specs.declared.body.Value.TheVariants.{Integer}
use Rattle.elements_rules.specs.Rows.{width}
use Rattle.elements_rules.specs.Promise.{read_of, reply_of, zeros, table_of}

-- Each case has the number behind its P.
pub data Case : Type 0 where
  -- the header at 0
  header : (name : ℕ) → List ℕ → ByNumber Header → Case
  -- the body behind the header at 0, under no parent
  body : (name : ℕ) → List ℕ → ByNumber Body → Case
  -- the elements of a payload at 0, of a size and under a parent id, into a table of two rows: the reply, and the table
  read : (name : ℕ) → List ℕ → (size parent : ℕ) → ByNumber ℕ → List ℕ → Case
  -- the elements of a whole list of bytes under no parent, into a table of so many rows, refused: number and address
  breaks : List ℕ → (rows : ℕ) → (number address : ℕ) → Case
  -- the same in live mode
  breaks_live : List ℕ → (rows : ℕ) → (number address : ℕ) → Case

-- Two rows.
abbrev pub numbers : ℕ
numbers = 2 * width

-- A header with that id, size and length.
abbrev is : (id size length : ℕ) → ByNumber Header
is id size length = given (record { id = id; size = size; length = length })

-- So many masters, each in the one before, the innermost around bytes; n is how many these are.
abbrev pub nested : (count n : ℕ) → List ℕ → List ℕ
nested zero n s = s
nested (suc count) n s = nested count (n + 2) (0xB6 ∷ (0x80 + n) ∷ s)

abbrev pub cases : List Case
cases =
    header 1 (0xAE ∷ 0x80 ∷ []) (is 0xAE 0 2)
    ∷ header 2 (0xAE ∷ 0xFF ∷ []) (is 0xAE 127 2)
    ∷ header 3 (0x1A ∷ 0x45 ∷ 0xDF ∷ 0xA3 ∷ 0x40 ∷ 0x02 ∷ []) (is 0x1A45DFA3 2 6)
    ∷ header 4 (0x18 ∷ 0x53 ∷ 0x80 ∷ 0x67 ∷ 0x01 ∷ 0xFF ∷ 0xFF ∷ 0xFF ∷ 0xFF ∷ 0xFF ∷ 0xFF ∷ 0xFF ∷ [])
    (is 0x18538067 (2 ^ 56 - 1) 12)
    ∷ header 5 (0x0F ∷ 0x80 ∷ []) (refused 2 0 0)
    ∷ header 5 (0x00 ∷ 0x01 ∷ []) (refused 2 0 0)
    ∷ header 6 (0x00 ∷ 0x00 ∷ []) (refused 1 0 0)
    ∷ header 6 (0xAE ∷ []) (refused 1 0 0)
    ∷ header 6 (0xAE ∷ 0x00 ∷ []) (refused 1 0 0)
    ∷ header 7 (0xAE ∷ 0x00 ∷ 0x01 ∷ []) (refused 3 0 0)
    ∷ body 8 (0xFB ∷ 0x81 ∷ 0xFF ∷ []) (given (Value (Integer (negsuc 0))))
    ∷ body 8 (0xFB ∷ 0x82 ∷ 0x00 ∷ 0x80 ∷ []) (given (Value (Integer (pos 128))))
    ∷ body 9 (0xB5 ∷ 0x80 ∷ []) (refused 5 0 0)
    ∷ body 9 (0x44 ∷ 0x61 ∷ 0x87 ∷ []) (refused 6 0 0)
    ∷ body 10 (0x45 ∷ 0xA3 ∷ 0x82 ∷ 0xC0 ∷ 0x80 ∷ []) (refused 7 0 0)
    ∷ body 10 (0x45 ∷ 0xA3 ∷ 0x83 ∷ 0xED ∷ 0xA0 ∷ 0x80 ∷ []) (refused 7 0 0)
    ∷ read 11 (0x67 ∷ 0xC8 ∷ 0x84 ∷ 0x45 ∷ 0xA3 ∷ 0x82 ∷ 0x41 ∷ 0x42 ∷ []) 7 0 (refused 3 0 3) (zeros numbers)
    ∷ read 11 (0x67 ∷ 0xC8 ∷ 0x84 ∷ 0x45 ∷ 0xA3 ∷ 0x82 ∷ 0x41 ∷ []) 7 0 (refused 1 0 3) (zeros numbers)
    ∷ read 12 (0x16 ∷ 0x54 ∷ 0xAE ∷ 0x6B ∷ 0x82 ∷ 0xE0 ∷ 0x80 ∷ []) 7 0x18538067 (given 2)
    (0x1654AE6B ∷ 0 ∷ 0 ∷ 5 ∷ 2 ∷ 1 ∷ 0 ∷ 2 ∷ 0xE0 ∷ 1 ∷ 5 ∷ 2 ∷ 0 ∷ 6 ∷ 1 ∷ 2 ∷ [])
    -- A header that is not there: where it would begin, and not its master's address.
    ∷ breaks (0xAE ∷ 0x81 ∷ []) 2 1 2
    -- A bad id and a bad size: where that header begins.
    ∷ breaks (0xEC ∷ 0x80 ∷ 0x0F ∷ 0x80 ∷ []) 2 2 2
    ∷ breaks (0xEC ∷ 0x80 ∷ 0xAE ∷ 0x00 ∷ 0x01 ∷ []) 2 3 2
    -- Bodies: the header's address, and not the payload's.
    ∷ breaks (0xEC ∷ 0x80 ∷ 0xD7 ∷ 0x89 ∷ []) 2 4 2
    ∷ breaks (0xEC ∷ 0x80 ∷ 0xB5 ∷ 0x80 ∷ []) 2 5 2
    ∷ breaks (0xEC ∷ 0x80 ∷ 0x44 ∷ 0x61 ∷ 0x87 ∷ []) 2 6 2
    ∷ breaks (0x45 ∷ 0xA3 ∷ 0x81 ∷ 0xFF ∷ []) 1 7 0
    ∷ breaks (0xEC ∷ 0x80 ∷ 0xEC ∷ 0x81 ∷ []) 2 1 2
    -- The element whose header was read: depth 16 in an edition of 35 bytes, and no row free.
    ∷ breaks (0x45 ∷ 0xB9 ∷ 0xA0 ∷ nested 16 0 []) 17 12 33
    ∷ breaks (0xEC ∷ 0x80 ∷ []) 0 13 0
    ∷ breaks (0xEC ∷ 0x80 ∷ 0xEC ∷ 0x80 ∷ []) 1 13 2
    -- In live mode an unknown size is 17, directly after its header: of a Cluster and a Segment too, before 12, before
    -- 13 and before the body. In old mode it is a number.
    ∷ breaks_live (0x1F ∷ 0x43 ∷ 0xB6 ∷ 0x75 ∷ 0xFF ∷ []) 0 17 0
    ∷ breaks (0x1F ∷ 0x43 ∷ 0xB6 ∷ 0x75 ∷ 0xFF ∷ []) 0 13 0
    ∷ breaks_live (0xEC ∷ 0x80 ∷ 0x18 ∷ 0x53 ∷ 0x80 ∷ 0x67 ∷ 0x7F ∷ 0xFF ∷ []) 2 17 2
    ∷ breaks_live (0x45 ∷ 0xB9 ∷ 0xA0 ∷ nested 15 2 (0xEC ∷ 0xFF ∷ [])) 17 17 33
    ∷ breaks (0x45 ∷ 0xB9 ∷ 0xA0 ∷ nested 15 2 (0xEC ∷ 0xFF ∷ [])) 17 12 33
    ∷ breaks_live (0xEC ∷ 0xFF ∷ []) 1 17 0
    ∷ breaks_live (0xEC ∷ 0x40 ∷ 0x7F ∷ []) 1 1 0
    ∷ []

-- The body behind a header that was read at 0.
abbrev pub body_behind : List ℕ → Heading → Reply Body
body_behind s (heading h) = body_reply s h.id 0 h.length h.size 0
body_behind s (refused_header cause) = refusal (because cause 0)

abbrev pub Holds : Case → Type 0
Holds (header name s reply) = by_number (header_reply s 0) ≡ reply
Holds (body name s reply) = by_number (body_behind s (header_of s)) ≡ reply
Holds (read name s size parent reply table) =
    (by_number (reply_of (read_of false s 0 size parent numbers)) ≡ reply)
    × (table_of 0 numbers (read_of false s 0 size parent numbers) ≡ table)
Holds (breaks s rows number address) =
    by_number (reply_of (read_of false s 0 (length s) 0 (rows * width))) ≡ refused number 0 address
Holds (breaks_live s rows number address) =
    by_number (reply_of (read_of true s 0 (length s) 0 (rows * width))) ≡ refused number 0 address

-- The one statement: each case's question has the case's reply.
abbrev pub Hold : List Case → Type 0
Hold [] = Unit
Hold (c ∷ cs) = Holds c × Hold cs
