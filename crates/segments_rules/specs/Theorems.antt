-- What is proved of the definitions beside the contracts: the statements of the theorems. They say that the bound of a
-- walk hides no answer.
use Rattle.std.specs.Prelude.{ℕ, ◌≡◌, List, [], Bool, cond, length, eqb}
use Rattle.refusals.specs.Refusals.{past_end, overrun}
use Rattle.header.specs.declared.cursor.Headed.{Headed}
use Rattle.walks_rules.specs.Step.{child_at, on_child}
use Rattle.walks_rules.specs.Walk.{on_passed}
use Rattle.walks_rules.specs.Endings.{pass_over, end_of}
use Rattle.walks_rules.specs.declared.step.Stretch.TheVariants.{Sized}
use Rattle.seekhead_rules.specs.Seeks.{segment_id, seek_head_id}
use Rattle.seekchain_rules.specs.Lookup.{Lookup, found, absent, stopped, by_heads}
use Rattle.segments_rules.specs.Segment.{segment_from, stretch_of, overruns, met_from, segment_children_from}
use Rattle.segments_rules.specs.declared.walk.Aim.TheVariants.{One}
use Rattle.segments_rules.specs.declared.walk.Met.TheVariants.{Head, Part}
use Rattle.std.specs.Prelude.{Result, Option, Ok, Err, Some, None}
use Rattle.segments_rules.specs.declared.walk.Met.{Met}
use Rattle.refusals.specs.declared.refusal.Refusal.{Refusal}

-- The way to the segment goes from element to element.
abbrev pub SegmentUnfolds : Type 0
SegmentUnfolds =
    (live : Bool) (s : List ℕ) (at : ℕ)
    → segment_from live s at
    ≡ on_child (child_at live s (Sized (length s)) at) (Err (past_end at)) Err (λ e.
    cond (eqb e.header.id segment_id) (Ok e)
    (on_passed (pass_over live s (length s) e) Err (segment_from live s)))

-- The walk over the segment's children goes from child to child.
abbrev pub ChildrenUnfold : Type 0
ChildrenUnfold =
    (live : Bool) (s : List ℕ) (wanted : ℕ) (segment : Headed) (at : ℕ)
    → segment_children_from live s wanted segment at
    ≡ on_child (child_at live s (stretch_of live s segment) at) (absent []) stopped (λ e.
    cond (eqb e.header.id seek_head_id) (by_heads live s wanted segment.payload.at e)
    (cond (eqb e.header.id wanted) (found e [])
    (cond (overruns live segment e) (stopped (overrun e.place.at))
    (on_passed (pass_over live s (end_of (stretch_of live s segment)) e) stopped
    (segment_children_from live s wanted segment)))))

-- What the search does with what is met first.
abbrev pub after_met : (live : Bool) → List ℕ → (wanted : ℕ) (segment : Headed) → Result (Option Met) Refusal → Lookup
after_met live s wanted segment (Ok (Some (Head e))) = by_heads live s wanted segment.payload.at e
after_met live s wanted segment (Ok (Some (Part e))) = found e []
after_met live s wanted segment (Ok None) = absent []
after_met live s wanted segment (Err e) = stopped e

-- The search for a part is by the first child that the walk meets which every search and `open` share. It shuts out a
-- second walk of the search's own that takes another child.
abbrev pub SearchMeets : Type 0
SearchMeets =
    (live : Bool) (s : List ℕ) (wanted : ℕ) (segment : Headed) (at : ℕ)
    → segment_children_from live s wanted segment at
    ≡ after_met live s wanted segment (met_from live s (One wanted) segment at)
