-- What the functions of `opening` and `open` promise each other: where the call stands between two parts that it reads.
use Rattle.std.specs.Prelude.{ℕ, ◌+◌, ◌<◌, ◌≡◌, List, Bool, length}
use Rattle.refusals.specs.declared.refusal.Refusal.{Refusal}
use Rattle.header.specs.declared.cursor.Headed.{Headed}
use Rattle.elements_rules.specs.Forest.{Forest, count}
use Rattle.elements_rules.specs.Reading.{done}
use Rattle.elements_rules.specs.Reading.{refused as unread}
use Rattle.elements_rules.specs.Promise.{table_of, read_told}
use Rattle.elements_rules.specs.Contract.{ClearFrom}
use Rattle.elements_rules.specs.Promise.{reply_of as read_reply}
use Rattle.walks_rules.specs.Contract.{Readable}
use Rattle.walks_rules.specs.Step.{child_at}
use Rattle.walks_rules.specs.Walk.{on_passed}
use Rattle.walks_rules.specs.Endings.{room_of}
use Rattle.seekhead_rules.specs.Table.{positions}
use Rattle.seekhead_rules.specs.declared.head.Wanted.{Wanted}
use Rattle.seekhead_rules.specs.declared.head.Positions.{Positions}
use Rattle.seekchain_rules.specs.Heads.{Heads, last_head}
use Rattle.segments_rules.specs.Segment.{stretch_of, past_child}
use Rattle.open_rules.specs.Parts.{id_of, no_parts, on_part, placed, found_part}
use Rattle.open_rules.specs.Tables.{Tables, Sizes, sizes_of, of, put, part_read, shown}
use Rattle.open_rules.specs.Opening.{Opening, read, refused, sought_from, by_heads_all, children_from}
use Rattle.open_rules.specs.Promise.{open_of, reply_of}
use Rattle.open_rules.specs.declared.parts.Which.{Which}
use Rattle.open_rules.specs.declared.parts.Which.TheVariants.{Info, Tracks, Attachments, Chapters, Tags}
use Rattle.open_rules.specs.declared.parts.Parts.{Parts}
use Rattle.open_rules.specs.declared.turns.Seeking.{Seeking}
use Rattle.open_rules.specs.declared.turns.Stage.{Stage}
use Rattle.open_rules.specs.declared.turns.Stage.TheVariants.{From, Behind, Sought}
use Rattle.open_rules.specs.declared.turns.Turn.{Turn}
use Rattle.open_rules.specs.declared.turns.Turn.TheVariants.{Read, Over}
use Rattle.std.specs.Prelude.{Result, Option, Ok, Err, Some}
use Rattle.search_rules.specs.declared.part.Part.{Part}

-- ---- the seek heads

-- The wanted ids of the chain: all five.
abbrev pub every : Wanted
every = record {
  first = id_of Info;
  second = id_of Tracks;
  third = id_of Attachments;
  fourth = id_of Chapters;
  fifth = id_of Tags;
}

abbrev pub link_of : Positions → Which → Option ℕ
link_of links Info = links.first
link_of links Tracks = links.second
link_of links Attachments = links.third
link_of links Chapters = links.fourth
link_of links Tags = links.fifth

-- What is known of heads that were read.
pub record Tells (seeking : Seeking) (heads : Heads) : Type 0 where
  pub links : seeking.links ≡ positions every heads.entries
  pub counted : length heads.addresses ≡ seeking.heads
  pub last : last_head heads.addresses ≡ seeking.last

-- ---- a stage

-- The elements that it names were read.
abbrev pub Ready : List ℕ → Stage → Type 0
Ready s (From segment at) = Readable s segment
Ready s (Behind segment child) = Readable s segment × Readable s child
Ready s (Sought seeking left) = Unit

-- What is left to do, which falls from one part that is read to the next.
abbrev pub left_of : (live : Bool) → List ℕ → Stage → ℕ
left_of live s (From segment at) = room_of s (stretch_of live s segment) at + 7
left_of live s (Behind segment child) = room_of s (stretch_of live s segment) child.place.at + 6
left_of live s (Sought seeking left) = length left.now

module _ (live : Bool) (s : List ℕ) (n : Sizes) where
  -- What the call comes to after the heads, with those parts left to seek, and with what is known of the parts.
  abbrev pub StandsSought : Seeking → (left : List Which) → Parts → Opening → Type 0
  StandsSought seeking left ps o =
      (heads : Heads) × Tells seeking heads × (o ≡ sought_from live s n seeking.start heads left ps)

  -- The same from any stage on.
  abbrev pub Stands : Stage → Parts → Opening → Type 0
  Stands (From segment at) ps o = o ≡ children_from live s n segment at ps
  Stands (Behind segment child) ps o =
      (child_at live s (stretch_of live s segment) child.place.at ≡ Ok (Some child))
      × (o ≡ on_passed (past_child live s segment child) refused (λ next.
      children_from live s n segment next ps))
  Stands (Sought seeking left) ps o = StandsSought seeking left.now ps o

  -- ---- a turn

  -- A part is read: its refusal is the call's, and its rows lead to the next stage.
  pub record ReadsNext (ps : Parts) (o : Opening) (most : ℕ) (which : Which) (e : Headed) (next : Stage) : Type 0 where
    pub fails :
        (r : Refusal) → part_read live s n which e.payload.at e.header.size ≡ unread r → o ≡ refused r
    pub goes :
        (f : Forest) → part_read live s n which e.payload.at e.header.size ≡ done f
        → Stands next (placed ps which (found_part e.payload.at e.header.size (count f))) o
    pub fewer : left_of live s next < most
    pub ready : Ready s next

  -- The call is over, with what is known of the parts: so many heads were read.
  abbrev pub Ends : Parts → Opening → (heads : ℕ) → Type 0
  Ends ps o k = (heads : List ℕ) × (o ≡ read ps heads) × (length heads ≡ k)

  -- A refusal of the turn is the call's.
  abbrev pub Turns : Parts → Opening → (most : ℕ) → Result Turn Refusal → Type 0
  Turns ps o most (Ok (Read which e next)) = ReadsNext ps o most which e next
  Turns ps o most (Ok (Over heads)) = Ends ps o heads
  Turns ps o most (Err e) = o ≡ refused e

-- What the functions of a turn promise: whatever the tables' lengths, whatever is known of the parts, and whatever the
-- call comes to.
module _ (live : Bool) (s : List ℕ) where
  abbrev pub TurnsSought : Seeking → (left : List Which) → Result Turn Refusal → Type 0
  TurnsSought seeking left turn =
      (n : Sizes) (ps : Parts) (o : Opening) → StandsSought live s n seeking left ps o
      → Turns live s n ps o (length left) turn

  abbrev pub TurnsHead : (start : ℕ) (first : Headed) → Result Turn Refusal → Type 0
  TurnsHead start first turn =
      (n : Sizes) (ps : Parts) (o : Opening) → o ≡ by_heads_all live s n start first ps → Turns live s n ps o 5 turn

  abbrev pub TurnsMet : (segment : Headed) (at : ℕ) → Result Turn Refusal → Type 0
  TurnsMet segment at turn =
      (n : Sizes) (ps : Parts) (o : Opening) → o ≡ children_from live s n segment at ps
      → Turns live s n ps o (left_of live s (From segment at)) turn

  abbrev pub TurnsFrom : Stage → Result Turn Refusal → Type 0
  TurnsFrom stage turn =
      (n : Sizes) (ps : Parts) (o : Opening) → Stands live s n stage ps o
      → Turns live s n ps o (left_of live s stage) turn

-- ---- what is read

-- How many rows of its table a part has.
abbrev pub rows_known : Option Part → ℕ
rows_known p = on_part p 0 (λ at size rows. rows)

-- Behind the rows of its part each table has zeros alone.
pub record ClearBehind (ps : Parts) (t : Tables) : Type 0 where
  pub info : ClearFrom (rows_known ps.info) t.info
  pub tracks : ClearFrom (rows_known ps.tracks) t.tracks
  pub attachments : ClearFrom (rows_known ps.attachments) t.attachments
  pub chapters : ClearFrom (rows_known ps.chapters) t.chapters
  pub tags : ClearFrom (rows_known ps.tags) t.tags

-- One of the five tables was read into.
pub record ReadInto
    (live : Bool) (s : List ℕ) (which : Which) (at size : ℕ) (t : Tables) (r : Result ℕ Refusal) (t' : Tables)
    : Type 0 where
  pub reply : read_told r ≡ read_reply (part_read live s (sizes_of t) which at size)
  pub tables : t' ≡ put t which (table_of at (of (sizes_of t) which) (part_read live s (sizes_of t) which at size))

-- ---- the whole call

-- The first stage, with tables of so many numbers: 14 for a length, or the segment's children.
abbrev pub Begins : (live : Bool) → List ℕ → Sizes → Result Stage Refusal → Type 0
Begins live s n (Ok stage) = Ready s stage × Stands live s n stage no_parts (open_of live s n)
Begins live s n (Err e) = open_of live s n ≡ refused e

-- What the call comes to with cleared tables: the reply, and tables that show its parts.
pub record Ran (live : Bool) (s : List ℕ) (t : Tables) (r : Result (Parts × ℕ) Refusal) (t' : Tables) : Type 0 where
  pub reply : r ≡ reply_of (open_of live s (sizes_of t))
  pub tables :
      (ps : Parts) (heads : List ℕ) → open_of live s (sizes_of t) ≡ read ps heads → t' ≡ shown live s (sizes_of t) ps
