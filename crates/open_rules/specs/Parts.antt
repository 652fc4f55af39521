-- The five parts of a recording (document 02, C-14): their ids, the ids that their children are read under, and what is
-- known of each.
use Rattle.std.specs.Prelude.{ℕ, List, [], ◌∷◌, cond, eqb}
use Rattle.open_rules.specs.declared.parts.Which.{Which}
use Rattle.open_rules.specs.declared.parts.Which.TheVariants.{Info, Tracks, Attachments, Chapters, Tags}
use Rattle.open_rules.specs.declared.parts.Parts.{Parts}
use Rattle.std.specs.Prelude.{Option, Some, None}
use Rattle.search_rules.specs.declared.part.Part.{Part}

abbrev pub id_of : Which → ℕ
id_of Info = 0x1549A966
id_of Tracks = 0x1654AE6B
id_of Attachments = 0x1941A469
id_of Chapters = 0x1043A770
id_of Tags = 0x1254C367

-- Which part an id names, of those that name one.
unfoldable pub which_of : ℕ → Which
which_of id =
    cond (eqb id (id_of Info)) Info
    (cond (eqb id (id_of Tracks)) Tracks
    (cond (eqb id (id_of Attachments)) Attachments
    (cond (eqb id (id_of Chapters)) Chapters Tags)))

-- The id that a part's children are read under (document 01, Kinds). Info's own id leaves the small set of masters.
abbrev pub parent_of : Which → ℕ
parent_of Info = 0x1549A966
parent_of Tracks = 0xAE
parent_of Attachments = 0x61A7
parent_of Chapters = 0x45B9
parent_of Tags = 0x7373

-- The order in which they are sought.
abbrev pub order : List Which
order = Info ∷ Tracks ∷ Attachments ∷ Chapters ∷ Tags ∷ []

abbrev pub no_parts : Parts
no_parts = record { info = None; tracks = None; attachments = None; chapters = None; tags = None }

abbrev pub part_of : Parts → Which → Option Part
part_of ps Info = ps.info
part_of ps Tracks = ps.tracks
part_of ps Attachments = ps.attachments
part_of ps Chapters = ps.chapters
part_of ps Tags = ps.tags

-- A part whose payload is there, with so many rows.
abbrev pub found_part : (at size rows : ℕ) → Option Part
found_part at size rows = Some (record { at = at; size = size; rows = rows })

abbrev pub on_part : {A : Type 0} → Option Part → A → (ℕ → ℕ → ℕ → A) → A
on_part None none some = none
on_part (Some p) none some = some p.at p.size p.rows

-- A part in its place: it replaces what was known of it.
abbrev pub placed : Parts → Which → Option Part → Parts
placed ps Info p = record {
  info = p;
  tracks = ps.tracks;
  attachments = ps.attachments;
  chapters = ps.chapters;
  tags = ps.tags;
}
placed ps Tracks p = record {
  info = ps.info;
  tracks = p;
  attachments = ps.attachments;
  chapters = ps.chapters;
  tags = ps.tags;
}
placed ps Attachments p = record {
  info = ps.info;
  tracks = ps.tracks;
  attachments = p;
  chapters = ps.chapters;
  tags = ps.tags;
}
placed ps Chapters p = record {
  info = ps.info;
  tracks = ps.tracks;
  attachments = ps.attachments;
  chapters = p;
  tags = ps.tags;
}
placed ps Tags p = record {
  info = ps.info;
  tracks = ps.tracks;
  attachments = ps.attachments;
  chapters = ps.chapters;
  tags = p;
}
