-- The place behind an element that a walk passes over: by its size, or of an element of unknown size where it ends
-- (document 02, C-18). It is found by the headers and sizes of what the element holds, never by looking for bytes.
use Rattle.std.specs.Prelude.{ℕ, ◌-◌, List, Bool, true, cond, ◌&&◌, length, leb}
use Rattle.header.specs.Reads.{behind}
use Rattle.header.specs.declared.cursor.Headed.{Headed}
use Rattle.sizes.specs.Unknown.{unknown}
use Rattle.walks_rules.specs.Step.{child_at}
use Rattle.walks_rules.specs.Walk.{over, Walk, walk}
use Rattle.walks_rules.specs.declared.step.Stretch.{Stretch}
use Rattle.walks_rules.specs.declared.step.Stretch.TheVariants.{Sized, Endless}
use Rattle.std.specs.Prelude.{Result, Ok, Err}
use Rattle.refusals.specs.declared.refusal.Refusal.{Refusal}

-- Where an element of unknown size ends that is at its end at a place: at the known end, else at the recording's, else
-- there.
unfoldable pub ended_at : List ℕ → (end at : ℕ) → ℕ
ended_at s end at = cond (leb end at) end (cond (leb (length s) at) (length s) at)

-- The place behind an element in one of unknown size. One of unknown size there can only be a Cluster in a Segment. It
-- is gone into: what ends the Segment ends the Cluster too, and what else ends the Cluster is the Segment's next child
-- (`ClustersPassed`).
unfoldable pub within : Headed → ℕ
within e = cond (unknown e.header) e.payload.at (behind e)

-- A walk that looks for the end alone.
abbrev pub ending : List ℕ → (end : ℕ) → Walk Unit (Result ℕ Refusal)
ending s end = record { visit = λ known e. over known; ended = λ at known. Ok (ended_at s end at); stop = Err }

-- The end of an element of that id and of unknown size, from a place among its children on; at the latest a known end.
unfoldable pub end_from : List ℕ → (id end at : ℕ) → Result ℕ Refusal
end_from s id end at =
    walk (child_at true s (Endless id end)) (λ e. Ok (within e)) (ending s end) (length s - at) at tt

-- The place behind an element, where a known end bounds it.
unfoldable pub pass_over : (live : Bool) → List ℕ → (end : ℕ) → Headed → Result ℕ Refusal
pass_over live s end e =
    cond (live && unknown e.header) (end_from s e.header.id end e.payload.at) (Ok (behind e))

-- ---- a walk over a stretch

-- The known end of a stretch.
abbrev pub end_of : Stretch → ℕ
end_of (Sized end) = end
end_of (Endless id end) = end

-- How many bytes there are from a place on, which bounds how many elements.
abbrev pub room_of : List ℕ → Stretch → (at : ℕ) → ℕ
room_of s (Sized end) at = end - at
room_of s (Endless id end) at = length s - at

abbrev pub walk_from : {A B : Type 0} → (live : Bool) → List ℕ → Stretch → Walk A B → (at : ℕ) → A → B
walk_from live s stretch w at a =
    walk (child_at live s stretch) (pass_over live s (end_of stretch)) w (room_of s stretch at) at a
