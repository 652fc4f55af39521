-- What a refusal names (document 02, C-12; C-18): the fault at its address, said once over the causes, and how a reader
-- came there. The statements of theorems, each with a wrong reader that it shuts out.
use Rattle.std.specs.Prelude.{ℕ, ◌+◌, ◌-◌, ◌/◌, ◌^◌, ◌≤◌, ◌<◌, ◌≡◌, List, [], ◌∷◌, ◌++◌, ◌⊎◌, Bool, true, false, ◌&&◌, not, length, drop}
use Rattle.refusals.specs.declared.refusal.Cause.{Cause}
use Rattle.refusals.specs.declared.refusal.Cause.TheVariants.{PastEnd, InvalidId, InvalidSize, Overrun}
use Rattle.refusals.specs.declared.refusal.Cause.TheVariants.{InvalidUint, InvalidFloat, InvalidDate, NotUtf8}
use Rattle.refusals.specs.declared.refusal.Cause.TheVariants.{InvalidSeekHead, StaleEntry, HeadAgain}
use Rattle.refusals.specs.declared.refusal.Cause.TheVariants.{TooManyHeads, TooDeep, NoFreeRow}
use Rattle.refusals.specs.declared.refusal.Cause.TheVariants.{BadArgument, Outside, UnknownSize}
use Rattle.refusals.specs.declared.refusal.Refusal.{Refusal}
use Rattle.header.specs.Header.{heading, header_of}
use Rattle.header.specs.Header.{refused as refused_header}
use Rattle.header.specs.Promise.{HeaderPromise}
use Rattle.header.specs.declared.cursor.Header.{Header}
use Rattle.sizes.specs.Unknown.{unknown, endless}
use Rattle.kinds.specs.Kinds.{number_of, kind_under, member}
use Rattle.bodies_rules.specs.Bodies.{body_of}
use Rattle.bodies_rules.specs.Bodies.{refused as refused_body}
use Rattle.bodies_rules.specs.Promise.{BodyPromise}
use Rattle.elements_rules.specs.Forest.{Forest, span, count}
use Rattle.elements_rules.specs.Reading.{done, element_header, full, depths, element}
use Rattle.elements_rules.specs.Rows.{width}
use Rattle.elements_rules.specs.Promise.{keeping, ReadPromise}
use Rattle.elements_rules.specs.declared.row.Mode.{Mode}
use Rattle.std.specs.Prelude.{Err}

-- ---- what a reader is about

-- What a reader is about at an address.
pub data Errand : Type 0 where
  -- To read a header alone.
  to_header : Errand
  -- To read a body that the caller names by an id, a parent id, a place and a size, with an address for its header.
  to_body : (id parent from size address : ℕ) → Errand
  -- To read an element: with so many rows in the table, under a parent id, at a depth, with so many rows taken, and so
  -- many bytes left in its master.
  to_element : Mode → (cap parent depth rows left : ℕ) → Errand
  -- To tell whether an element of that parent id and depth holds an address, with so many bytes left in its master.
  to_owner : (live : Bool) (parent depth left : ℕ) → Errand
  -- To read the header of an element that a walk comes to: of the file, or in an element of unknown size.
  to_step : (live : Bool) → Errand
  -- To go over a child of a segment whose end its size names, with so many bytes left there, unless its id is one of
  -- these.
  to_pass : (live : Bool) (stops : List ℕ) (left : ℕ) → Errand
  -- To find an element of that id at the address that an entry names.
  to_find : (live : Bool) (id : ℕ) → Errand
  -- To follow an entry for a further seek head, with a position counted from the segment's start, behind the heads that
  -- were read at these addresses.
  to_follow : (start position : ℕ) (heads : List ℕ) → Errand
  -- To look up the last entry for that id, likewise, when all heads were read.
  to_look_up : (id start position : ℕ) (heads : List ℕ) → Errand

-- Whether a header is read on an errand.
abbrev pub reads_header : Errand → Bool
reads_header to_header = true
reads_header (to_body id parent from size address) = false
reads_header (to_element mode cap parent depth rows left) = true
reads_header (to_owner live parent depth left) = true
reads_header (to_step live) = true
reads_header (to_pass live stops left) = true
reads_header (to_find live id) = true
reads_header (to_follow start position heads) = false
reads_header (to_look_up id start position heads) = false

-- ---- the faults

-- Which unknown size is 17 (document 02, C-18): in live mode that of any element of a payload, and where a walk or an
-- entry leads that of any but Segment and Cluster.
abbrev pub barred : Errand → Header → Bool
barred to_header h = false
barred (to_body id parent from size address) h = false
barred (to_element mode cap parent depth rows left) h = mode.live && unknown h
barred (to_owner live parent depth left) h = live && unknown h
barred (to_step live) h = live && (unknown h && not (endless h.id))
barred (to_pass live stops left) h = live && (unknown h && not (endless h.id))
barred (to_find live id) h = live && (unknown h && not (endless h.id))
barred (to_follow start position heads) h = false
barred (to_look_up id start position heads) h = false

-- A header stands there whose size is not 17 on that errand, and something holds of it.
abbrev pub Standing : List ℕ → ℕ → Errand → (Header → Type 0) → Type 0
Standing s at x P = (h : Header) × (header_of (drop at s) ≡ heading h) × (barred x h ≡ false) × P h

-- A header stands there, and its size is unknown where it has to be known.
pub data Unsized (s : List ℕ) (at : ℕ) (x : Errand) : Type 0 where
  unsized : (h : Header) → header_of (drop at s) ≡ heading h → barred x h ≡ true → Unsized s at x

-- The header there is refused.
pub data NoHeader (s : List ℕ) (at : ℕ) (c : Cause) (x : Errand) : Type 0 where
  no_header : reads_header x ≡ true → header_of (drop at s) ≡ refused_header c → NoHeader s at c x

-- A header stands there, and its body is refused: it is not too deep, and has a row. Of a body that the caller names
-- the address is the one that was given.
pub data NoBody (s : List ℕ) (at : ℕ) (c : Cause) : Errand → Type 0 where
  body_of_element :
      (mode : Mode) (cap parent depth rows left : ℕ) → depth < depths → full mode cap rows ≡ false
      → Standing s at (to_element mode cap parent depth rows left)
      (λ h. body_of s (at + h.length) h.size (kind_under h.id parent) ≡ refused_body c)
      → NoBody s at c (to_element mode cap parent depth rows left)
  body_named :
      (id parent from size : ℕ) → body_of s from size (kind_under id parent) ≡ refused_body c
      → NoBody s at c (to_body id parent from size at)

-- It is larger than what was left: an element that was read whole, one that may hold an address and is not too deep,
-- or a child that is passed over, in live mode one of known size.
pub data Larger (s : List ℕ) (at : ℕ) : Errand → Type 0 where
  larger_element :
      (mode : Mode) (cap parent depth rows left : ℕ) (f : Forest)
      → element s mode cap (depths - depth) parent at rows ≡ done f → left < span f
      → Larger s at (to_element mode cap parent depth rows left)
  larger_asked :
      (live : Bool) (parent depth left : ℕ) → depth < depths
      → Standing s at (to_owner live parent depth left) (λ h. left < h.length + h.size)
      → Larger s at (to_owner live parent depth left)
  larger_passed :
      (live : Bool) (stops : List ℕ) (left : ℕ)
      → Standing s at (to_pass live stops left)
      (λ h. (member h.id stops ≡ false) × ((live && unknown h) ≡ false) × (left < h.length + h.size))
      → Larger s at (to_pass live stops left)

-- It stands one depth too deep: the deepest row has depth 15.
pub data Deeper (s : List ℕ) (at : ℕ) : Errand → Type 0 where
  deeper_element :
      (mode : Mode) (cap parent rows left : ℕ)
      → Standing s at (to_element mode cap parent depths rows left) (λ h. Unit)
      → Deeper s at (to_element mode cap parent depths rows left)
  deeper_asked :
      (live : Bool) (parent left : ℕ) → Standing s at (to_owner live parent depths left) (λ h. Unit)
      → Deeper s at (to_owner live parent depths left)

-- It finds the table full, and is not too deep.
pub data Full (s : List ℕ) (at : ℕ) : Errand → Type 0 where
  full_element :
      (mode : Mode) (cap parent depth rows left : ℕ) → depth < depths
      → Standing s at (to_element mode cap parent depth rows left) (λ h. full mode cap rows ≡ true)
      → Full s at (to_element mode cap parent depth rows left)

-- It has another id than the one that is sought.
pub data Other (s : List ℕ) (at : ℕ) : Errand → Type 0 where
  other_found :
      (live : Bool) (id : ℕ) → Standing s at (to_find live id) (λ h. h.id ≡ id → ⊥) → Other s at (to_find live id)

-- The entry's address exceeds 2^64-1; the last head that was read is there. A further head's id is SeekHead's.
pub data Far (at : ℕ) : ℕ → Errand → Type 0 where
  far_followed :
      (start position : ℕ) (before : List ℕ) → 2 ^ 64 ≤ start + position
      → Far at 0x114D9B74 (to_follow start position (before ++ (at ∷ [])))
  far_looked_up :
      (id start position : ℕ) (before : List ℕ) → 2 ^ 64 ≤ start + position
      → Far at id (to_look_up id start position (before ++ (at ∷ [])))

-- The entry for a head leads there, where one of the heads that were read is.
pub data Again (at : ℕ) : Errand → Type 0 where
  again_followed :
      (start position : ℕ) (heads : List ℕ) → start + position ≡ at → at < 2 ^ 64 → member at heads ≡ true
      → Again at (to_follow start position heads)

-- The entry for a head leads there, where none of the heads that were read is; and 64 were read.
pub data Many (at : ℕ) : Errand → Type 0 where
  many_followed :
      (start position : ℕ) (heads : List ℕ)
      → start + position ≡ at → at < 2 ^ 64 → member at heads ≡ false → length heads ≡ 64
      → Many at (to_follow start position heads)

-- The fault that a refusal names, by its cause.
abbrev pub Fault : List ℕ → ℕ → Errand → Cause → Type 0
Fault s at x PastEnd = NoHeader s at PastEnd x ⊎ NoBody s at PastEnd x
Fault s at x InvalidId = NoHeader s at InvalidId x
Fault s at x InvalidSize = NoHeader s at InvalidSize x
Fault s at x Overrun = Larger s at x
Fault s at x InvalidUint = NoBody s at InvalidUint x
Fault s at x InvalidFloat = NoBody s at InvalidFloat x
Fault s at x InvalidDate = NoBody s at InvalidDate x
Fault s at x NotUtf8 = NoBody s at NotUtf8 x
Fault s at x (InvalidSeekHead id) = Far at id x
Fault s at x StaleEntry = Other s at x
Fault s at x HeadAgain = Again at x
Fault s at x TooManyHeads = Many at x
Fault s at x TooDeep = Deeper s at x
Fault s at x NoFreeRow = Full s at x
Fault s at x BadArgument = ⊥
Fault s at x Outside = ⊥
Fault s at x UnknownSize = Unsized s at x

-- ---- an honest refusal

-- A reader that goes where `Reached` says came to the address, and the fault is there.
pub record FaultThere (s : List ℕ) (Reached : ℕ → Errand → Type 0) (e : Refusal) : Type 0 where
  pub errand : Errand
  pub reached : Reached e.address errand
  pub fault : Fault s e.address errand e.cause

-- That, or it is 14 or 15: of what the caller gave, and at 0.
pub data Honest (s : List ℕ) (Reached : ℕ → Errand → Type 0) (e : Refusal) : Type 0 where
  there : FaultThere s Reached e → Honest s Reached e
  callers : (e.cause ≡ BadArgument) ⊎ (e.cause ≡ Outside) → e.address ≡ 0 → Honest s Reached e

-- A header alone is refused where it was asked for. It shuts out a reader that tells of a bad size where the size
-- begins.
abbrev pub HeaderHonest : Type 0
HeaderHonest =
    (s : List ℕ) (at : ℕ) (e : Refusal) → HeaderPromise s at (Err e)
    → Honest s (λ (a : ℕ) (x : Errand). (a ≡ at) × (x ≡ to_header)) e

-- A body is refused at the address that the caller gave for its header. It shuts out a reader that tells the place of
-- the payload.
abbrev pub BodyHonest : Type 0
BodyHonest =
    (s : List ℕ) (id parent at size address : ℕ) (e : Refusal)
    → BodyPromise s id parent at size address (Err e)
    → Honest s (λ (a : ℕ) (x : Errand). (a ≡ address) × (x ≡ to_body id parent at size address)) e

-- ---- the way to an element

-- How the reader of a payload's elements comes to one of them. They have that depth and stand under that parent id, and
-- n rows stand before them. What it went past was read whole, and what it went into is a master that has its row.
pub data Comes (s : List ℕ) (mode : Mode) (cap : ℕ) : (depth parent at size n : ℕ) → ℕ → Errand → Type 0 where
  here :
      (depth parent at size n : ℕ) → 0 < size
      → Comes s mode cap depth parent at size n at (to_element mode cap parent depth n size)
  past :
      (depth parent at size n a : ℕ) (x : Errand) (f : Forest)
      → element s mode cap (depths - depth) parent at n ≡ done f → span f ≤ size
      → Comes s mode cap depth parent (at + span f) (size - span f) (n + count f) a x
      → Comes s mode cap depth parent at size n a x
  into :
      (depth parent at size n a : ℕ) (x : Errand) (h : Header)
      → 0 < size → depth < depths → element_header mode.live s at ≡ heading h → full mode cap n ≡ false
      → number_of (kind_under h.id parent) ≡ 1
      → Comes s mode cap (depth + 1) h.id (at + h.length) h.size (n + 1) a x
      → Comes s mode cap depth parent at size n a x

-- A refusal of the reading of a payload into a table of so many numbers.
abbrev pub HonestReading : (live : Bool) → List ℕ → (start size parent numbers : ℕ) → Refusal → Type 0
HonestReading live s start size parent numbers e =
    Honest s (Comes s (keeping live) (numbers / width) 0 parent start size 0) e

-- A read is refused at the first element, in the order of reading, that has a fault, and for that fault. It shuts out a
-- reader that names the master of a child that is too large, or the payload of a text that is not UTF-8, and one that
-- goes on to a later fault.
abbrev pub ReadHonest : Type 0
ReadHonest =
    (live : Bool) (s : List ℕ) (start size parent : ℕ) (t : List ℕ) (e : Refusal) (t' : List ℕ)
    → ReadPromise live s start size parent t (Err e) t' → HonestReading live s start size parent (length t) e
