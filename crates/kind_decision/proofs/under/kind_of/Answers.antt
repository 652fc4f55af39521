-- `kind_of` meets its contract: the id's case, and for a master what its parent makes of it. Assumes nothing.
use mathlib.Core.Path.{sym}
use Rattle.kinds.proofs.Numbers.{is_master, no_master}
use Rattle.kinds.proofs.Parents.{under_other, under_kept, under_lost}
use Rattle.kind_decision.proofs.under.kind_of.Goals.{else-eq-via-then-eq+else-not-stays_master, else-eq-via-else-eq}
use Rattle.kind_decision.proofs.under.kind_of.Goals as goal

pub returns-then-not-stays_master : goal.returns-then-not-stays_master
returns-then-not-stays_master c =
    under_lost _ _ _ c.listed_kind-kind.ensures (is_master _ c.if-eq.ensures) (sym c.if-not-stays_master.ensures)

pub returns : goal.returns
returns c = elim c.else-eq.branch [
  | else-eq-via-then-eq+else-not-stays_master w ↦
      under_kept _ _ _ c.listed_kind-kind.ensures (sym w.if-not-stays_master.ensures)
  | else-eq-via-else-eq w ↦ under_other _ _ _ c.listed_kind-kind.ensures (no_master _ w.if-eq.ensures)
]
