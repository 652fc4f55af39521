-- What the functions of `segments` promise each other.
use Rattle.std.specs.Prelude.{ℕ, ◌≡◌, List, Bool}
use Rattle.header.specs.declared.cursor.Headed.{Headed}
use Rattle.walks_rules.specs.declared.step.Stretch.{Stretch}
use Rattle.segments_rules.specs.Segment.{stretch_of, past_child}
use Rattle.seekchain_rules.specs.Lookup.{Lookup}
use Rattle.seekchain_rules.specs.Contract.{place_told}
use Rattle.walks_rules.specs.Walk.{Visit, ends, over}
use Rattle.std.specs.Prelude.{Result, Option, Some, None}
use Rattle.refusals.specs.declared.refusal.Refusal.{Refusal}

abbrev pub visit_told : Visit Unit Lookup → Option (Result (Option Headed × ℕ) Refusal)
visit_told (ends p) = Some (place_told p)
visit_told (over known) = None

-- The way past a child, by what its segment holds: all that `past_child` needs to know of the segment.
abbrev pub PastIn : (live : Bool) → List ℕ → Stretch → (e : Headed) → Result ℕ Refusal → Type 0
PastIn live s stretch e r = (segment : Headed) → stretch ≡ stretch_of live s segment → r ≡ past_child live s segment e
