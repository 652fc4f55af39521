-- `turn`: what follows from each stage. Assumes nothing.
use Rattle.open_rules.proofs.Going.{turn_sought, turn_on}
use Rattle.opening.proofs.turns.turn.Goals as goal

pub returns-in_ok-next-in-Behind : goal.returns-in_ok-next-in-Behind
returns-in_ok-next-in-Behind c =
    turn_on _ _ _ _ _ _ c.in-Behind.is _ c.stretch_of-stretch.ensures _ c.past_child.ensures _
    c.in_ok-next-in-Behind.was c.next_met-in-Behind.ensures

pub returns-in-Sought : goal.returns-in-Sought
returns-in-Sought c =
    turn_sought _ _ _ _ _ _ c.in-Sought.is c.next_sought.ensures
