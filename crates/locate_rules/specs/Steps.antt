-- The way to the master that a record question asks for: a step for each level (document 01, Records).
use Rattle.std.specs.Prelude.{ℕ, suc, List, cond, eqb}
use Rattle.kinds.specs.declared.kind.Kind.TheVariants.{Master}
use Rattle.elements_rules.specs.declared.row.Row.{Row}
use Rattle.fields_rules.specs.Children.{subtree, children, last_of, nth_of}
use Rattle.locate_rules.specs.declared.steps.Step.{Step}
use Rattle.locate_rules.specs.declared.steps.Step.TheVariants.{Here, Only, Nth, Last}
use Rattle.locate_rules.specs.declared.steps.Way.{Way}
use Rattle.std.specs.Prelude.{Option, Some, None}

-- A child as a master: its row number plus 1.
abbrev pub spot_of : Option (ℕ × Row) → Option ℕ
spot_of None = None
spot_of (Some (n, r)) = Some (suc n)

-- One step on from a master, which is told as in a row's parent.
abbrev pub stepped : List Row → ℕ → Step → Option ℕ
stepped rs parent Here = Some parent
stepped rs parent (Only k) = cond (eqb k 0) (Some parent) None
stepped rs parent (Nth id k) = spot_of (nth_of k (children parent id Master (subtree rs parent)))
stepped rs parent (Last id) = spot_of (last_of (children parent id Master (subtree rs parent)))

-- What is absent has nothing below it.
abbrev pub entered : List Row → Option ℕ → Step → Option ℕ
entered rs None step = None
entered rs (Some parent) step = stepped rs parent step

abbrev pub way : (first second third : Step) → Way
way first second third = record { first = first; second = second; third = third }

-- From the payload that was read, a step for each level.
unfoldable pub reached : List Row → Way → Option ℕ
reached rs w = entered rs (entered rs (entered rs (Some 0) w.first) w.second) w.third
