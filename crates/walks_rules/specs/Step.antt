-- The step by which the file's elements, the segment's children and sought addresses are read (document 01, Seek tables
-- and the search), and what ends an element of unknown size (document 02, C-18). Here alone a walk knows 17, and which
-- id ends an element.
use Rattle.std.specs.Prelude.{ℕ, List, [], ◌∷◌, Bool, false, cond, ◌&&◌, ◌||◌, not, length, leb, eqb}
use Rattle.refusals.specs.Refusals.{unknown_size}
use Rattle.refusals.specs.declared.refusal.Refusal.{Refusal}
use Rattle.header.specs.Reads.{header_at}
use Rattle.header.specs.declared.cursor.Headed.{Headed}
use Rattle.sizes.specs.Unknown.{unknown, cluster_id, endless}
use Rattle.kinds.specs.Kinds.{member}
use Rattle.walks_rules.specs.Answers.{on_header}
use Rattle.walks_rules.specs.declared.step.Stretch.{Stretch}
use Rattle.walks_rules.specs.declared.step.Stretch.TheVariants.{Sized, Endless}
use Rattle.std.specs.Prelude.{Result, Option, Ok, Err, Some, None}

-- ---- where an element of unknown size ends

-- The ids that stand in the file itself: Segment and the EBML header.
abbrev pub file_ids : List ℕ
file_ids = 0x18538067 ∷ 0x1A45DFA3 ∷ []

-- The ids of the segment's children (RFC 9559, section 5.1): SeekHead, Info, Tracks, Chapters, Cluster, Cues,
-- Attachments, Tags. Void and CRC-32 may stand anywhere, and are none.
abbrev pub child_ids : List ℕ
child_ids =
    0x114D9B74 ∷ 0x1549A966 ∷ 0x1654AE6B ∷ 0x1043A770 ∷ cluster_id ∷ 0x1C53BB6B ∷ 0x1941A469 ∷ 0x1254C367 ∷ []

-- Which id ends an element of unknown size, a Segment or a Cluster: it ends before the next of these.
unfoldable pub ends_before : (id next : ℕ) → Bool
ends_before id next = member next file_ids || (eqb id cluster_id && member next child_ids)

-- What ending means, of a stretch that has a known end and of an element of unknown size alike: a place is past it, or
-- an id ends it. A place past the known end comes first; for an element of unknown size one past the recording's end
-- counts as the end.
unfoldable pub is_past : List ℕ → Stretch → (at : ℕ) → Bool
is_past s (Sized end) at = leb end at
is_past s (Endless id end) at = leb end at || leb (length s) at

unfoldable pub ended_by : Stretch → (next : ℕ) → Bool
ended_by (Sized end) next = false
ended_by (Endless id end) next = ends_before id next

-- ---- the step

-- An element of a walk whose header was read: in live mode 17 where its size is unknown, but for Segment and Cluster.
unfoldable pub barred_step : (live : Bool) → Headed → Bool
barred_step live e = live && (unknown e.header && not (endless e.header.id))

abbrev pub stepped : (live : Bool) → Headed → Result (Option Headed) Refusal
stepped live e = cond (barred_step live e) (Err (unknown_size e.place.at)) (Ok (Some e))

-- The element at a place of a stretch: the one step of a walk, and of an address that is sought. The order: the end,
-- header, an id that ends it, 17.
unfoldable pub child_at : (live : Bool) → List ℕ → Stretch → (at : ℕ) → Result (Option Headed) Refusal
child_at live s stretch at =
    cond (is_past s stretch at) (Ok None)
    (on_header (header_at s at) Err (λ e. cond (ended_by stretch e.header.id) (Ok None) (stepped live e)))

abbrev pub on_child : {A : Type 0} → Result (Option Headed) Refusal → A → (Refusal → A) → (Headed → A) → A
on_child (Ok (Some e)) ended stop next = next e
on_child (Ok None) ended stop next = ended
on_child (Err e) ended stop next = stop e
