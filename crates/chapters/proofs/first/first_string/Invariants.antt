-- `first_string` meets its contract: no display before this one has a set string. Assumes nothing.
use Rattle.children.specs.Left.{left}
use Rattle.chapters.proofs.Displays.{Ahead}
use Rattle.chapters.proofs.first.first_string.Given as goal

abbrev pub invariant-loop-display : goal.invariant-loop-display
invariant-loop-display l =
    let it = l.display-iterator in
    goal.iterator-loop-display.can_next it
    × goal.iterator-loop-display.is_finite it
    × Ahead l.recording l.table l.rows l.fn.chapter.parent it.count (left it.iter)
