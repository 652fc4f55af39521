-- Five lent tables, how many numbers they have, and what they show of the parts.
use Rattle.std.specs.Prelude.{ℕ, ◌≡◌, List, Bool, length}
use Rattle.elements_rules.specs.Reading.{Outcome}
use Rattle.elements_rules.specs.Promise.{read_of, zeros, table_of}
use Rattle.open_rules.specs.Parts.{parent_of, on_part}
use Rattle.open_rules.specs.declared.parts.Which.{Which}
use Rattle.open_rules.specs.declared.parts.Which.TheVariants.{Info, Tracks, Attachments, Chapters, Tags}
use Rattle.open_rules.specs.declared.lent.Lent.{Lent}
use Rattle.open_rules.specs.declared.parts.Parts.{Parts}
use Rattle.std.specs.Prelude.{Option}
use Rattle.search_rules.specs.declared.part.Part.{Part}

-- A thing for each part.
pub record Five (A : Type 0) : Type 0 where
  pub info : A
  pub tracks : A
  pub attachments : A
  pub chapters : A
  pub tags : A

abbrev pub Tables : Type 0
Tables = Five (List ℕ)

-- How many numbers each table has.
abbrev pub Sizes : Type 0
Sizes = Five ℕ

abbrev pub five : {A : Type 0} → A → A → A → A → A → Five A
five a b c d e = record { info = a; tracks = b; attachments = c; chapters = d; tags = e }

-- What the numbers of five lent tables are.
abbrev pub lent : Lent → Tables
lent l = five l.info.now l.tracks.now l.attachments.now l.chapters.now l.tags.now

abbrev pub sizes_of : Tables → Sizes
sizes_of t =
    five (length t.info) (length t.tracks) (length t.attachments) (length t.chapters) (length t.tags)

-- They are still the same tables.
pub record SameLent (new old : Lent) : Type 0 where
  pub info : new.info.ghost_name ≡ old.info.ghost_name
  pub tracks : new.tracks.ghost_name ≡ old.tracks.ghost_name
  pub attachments : new.attachments.ghost_name ≡ old.attachments.ghost_name
  pub chapters : new.chapters.ghost_name ≡ old.chapters.ghost_name
  pub tags : new.tags.ghost_name ≡ old.tags.ghost_name
  pub sizes : sizes_of (lent new) ≡ sizes_of (lent old)

abbrev pub of : {A : Type 0} → Five A → Which → A
of t Info = t.info
of t Tracks = t.tracks
of t Attachments = t.attachments
of t Chapters = t.chapters
of t Tags = t.tags

-- The tables with one of them put in.
abbrev pub put : Tables → Which → List ℕ → Tables
put t Info u = five u t.tracks t.attachments t.chapters t.tags
put t Tracks u = five t.info u t.attachments t.chapters t.tags
put t Attachments u = five t.info t.tracks u t.chapters t.tags
put t Chapters u = five t.info t.tracks t.attachments u t.tags
put t Tags u = five t.info t.tracks t.attachments t.chapters u

abbrev pub zeroed : Sizes → Tables
zeroed n =
    five (zeros n.info) (zeros n.tracks) (zeros n.attachments) (zeros n.chapters) (zeros n.tags)

-- The public read of a part's payload into its table, under the part's parent id.
unfoldable pub part_read : (live : Bool) → List ℕ → Sizes → Which → (at size : ℕ) → Outcome
part_read live s n which at size = read_of live s at size (parent_of which) (of n which)

-- The table of a part: as the public read of its payload leaves it; zeros where the part is absent.
abbrev pub shown_of : (live : Bool) → List ℕ → Sizes → Which → Option Part → List ℕ
shown_of live s n which p =
    on_part p (zeros (of n which)) (λ at size rows. table_of at (of n which) (part_read live s n which at size))

abbrev pub shown : (live : Bool) → List ℕ → Sizes → Parts → Tables
shown live s n ps =
    five (shown_of live s n Info ps.info) (shown_of live s n Tracks ps.tracks)
    (shown_of live s n Attachments ps.attachments) (shown_of live s n Chapters ps.chapters)
    (shown_of live s n Tags ps.tags)
