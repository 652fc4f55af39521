-- What is proved of the definitions beside the contracts: the statements of the theorems.
use Rattle.std.specs.Prelude.{ℕ, ◌-◌, ◌≡◌, List, Bool, true, length}
use Rattle.walks_rules.specs.Step.{child_at, on_child}
use Rattle.walks_rules.specs.Walk.{on_visit, on_passed, Walk, walk}
use Rattle.walks_rules.specs.Endings.{within, ended_at, ending, end_from, pass_over, end_of, walk_from}
use Rattle.walks_rules.specs.declared.step.Stretch.{Stretch}
use Rattle.walks_rules.specs.declared.step.Stretch.TheVariants.{Endless}
use Rattle.std.specs.Prelude.{Ok, Err}

-- There are never more elements than bytes, so that a walk is one step after another, with no bound.
abbrev pub WalkUnfolds : Type 1
WalkUnfolds =
    (A B : Type 0) (live : Bool) (s : List ℕ) (stretch : Stretch) (w : Walk A B) (at : ℕ) (a : A)
    → walk_from live s stretch w at a
    ≡ on_child (child_at live s stretch at) (w.ended at a) w.stop (λ e.
    on_visit (w.visit a e) (λ b. b) (λ more.
    on_passed (pass_over live s (end_of stretch) e) w.stop (λ next. walk_from live s stretch w next more)))

-- The same of the way to an end.
abbrev pub EndUnfolds : Type 0
EndUnfolds =
    (s : List ℕ) (id end at : ℕ)
    → end_from s id end at
    ≡ on_child (child_at true s (Endless id end) at) (Ok (ended_at s end at)) Err (λ e. end_from s id end (within e))

-- A Cluster of unknown size in a Segment of unknown size: the Segment ends at the same place whether the Cluster is
-- gone into or passed over by its own ending. It shuts out a definition that steps over the Cluster by the number that
-- its size octets make.
abbrev pub ClustersPassed : Type 0
ClustersPassed =
    (s : List ℕ) (end at : ℕ)
    → end_from s 0x18538067 end at
    ≡ walk (child_at true s (Endless 0x18538067 end)) (pass_over true s end) (ending s end) (length s - at) at tt
