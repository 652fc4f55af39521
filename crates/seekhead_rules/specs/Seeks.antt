-- One seek head and its entries (document 01, Seek tables and the search).
use Rattle.std.specs.Prelude.{ℕ, ◌+◌, ◌-◌, List, [], ◌∷◌, ◌++◌, Bool, cond, false, drop, eqb}
use Rattle.header.specs.Vint.{big_endian}
use Rattle.header.specs.Reads.{headed_at}
use Rattle.header.specs.declared.cursor.Headed.{Headed}
use Rattle.bodies_rules.specs.Bodies.{Told, body, refused, payload, body_of}
use Rattle.bodies_rules.specs.declared.body.Body.TheVariants.{Value, Master}
use Rattle.bodies_rules.specs.declared.body.Value.TheVariants.{Integer, Unsigned, Float, Date, Text, Bytes}
use Rattle.elements_rules.specs.Forest.{Element, Forest, none, node, whole}
use Rattle.elements_rules.specs.Reading.{Outcome, master_body}
use Rattle.elements_rules.specs.declared.row.Mode.{Mode}
use Rattle.seekhead_rules.specs.declared.seek.Seek.{Seek}

-- The ids by their names in Matroska.
abbrev pub segment_id : ℕ
segment_id = 0x18538067

abbrev pub seek_head_id : ℕ
seek_head_id = 0x114D9B74

abbrev pub seek_id : ℕ
seek_id = 0x4DBB

abbrev pub seek_id_id : ℕ
seek_id_id = 0x53AB

abbrev pub seek_position_id : ℕ
seek_position_id = 0x53AC

-- A read without rows, in live mode or in old mode.
abbrev pub without_rows : (live : Bool) → Mode
without_rows live = record { keep = false; live = live }

-- The whole payload of an element, read by the element rules without rows: its direct children have that depth, and
-- stand under that id.
abbrev pub skimmed : (live : Bool) → List ℕ → (depth parent : ℕ) → Headed → Outcome
skimmed live s depth parent e = master_body s (without_rows live) 0 depth parent e.payload.at e.header.size 0

-- A seek head's direct children have depth 0, and Segment's full set of kinds applies to them. A Seek's members have
-- depth 1.
abbrev pub head_of : (live : Bool) → List ℕ → Headed → Outcome
head_of live s head = skimmed live s 0 segment_id head

abbrev pub seek_body : (live : Bool) → List ℕ → Headed → Outcome
seek_body live s seek = skimmed live s 1 seek_id seek

-- ---- a Seek

-- The last four octets of a payload as a number; all of them where there are fewer.
unfoldable pub last_four : List ℕ → (at size : ℕ) → ℕ
last_four s at size = big_endian (drop (size - 4) (payload s at size))

-- A Seek with one more of its members, by what it holds: its id is the last four octets of the last 53AB, its position
-- the last 53AC.
abbrev pub noted : List ℕ → Headed → Told → Seek → Seek
noted s member (body (Value (Bytes r))) seek =
    cond (eqb member.header.id seek_id_id)
    (record { id = last_four s member.payload.at member.header.size; position = seek.position }) seek
noted s member (body (Value (Unsigned v))) seek =
    cond (eqb member.header.id seek_position_id) (record { id = seek.id; position = v }) seek
noted s member (body (Value (Integer z))) seek = seek
noted s member (body (Value (Float x))) seek = seek
noted s member (body (Value (Date z))) seek = seek
noted s member (body (Value (Text r))) seek = seek
noted s member (body Master) seek = seek
noted s member (refused cause) seek = seek

-- Without members there is no id, and the position is 0.
abbrev pub no_seek : Seek
no_seek = record { id = 0; position = 0 }

-- A Seek with the members that begin at an address.
unfoldable pub with_members : List ℕ → ℕ → Forest → Seek → Seek
with_members s at none seek = seek
with_members s at (node e kids rest) seek =
    with_members s (at + whole e) rest
    (noted s (headed_at at e.header) (body_of s (at + e.header.length) e.header.size e.kind) seek)

-- ---- a head's entries

-- The entry that a child of a head is, its payload at an address: a Seek is one, anything else none.
unfoldable pub entry_of : List ℕ → ℕ → Element → Forest → List Seek
entry_of s at e kids = cond (eqb e.header.id seek_id) (with_members s at kids no_seek ∷ []) []

-- The entries of the children that begin at an address, in order.
unfoldable pub entries : List ℕ → ℕ → Forest → List Seek
entries s at none = []
entries s at (node e kids rest) = entry_of s (at + e.header.length) e kids ++ entries s (at + whole e) rest
