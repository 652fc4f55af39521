-- `gathered`: the elements of a payload, one after another. Assumes nothing.
use Prim.Native.Nat.{◌-◌}
use Rattle.seekhead_rules.proofs.Levels.{Passing}
use Rattle.seekhead_rules.proofs.Members.{level, level_law}
use Rattle.seekhead.proofs.level.gathered.Given as goal

abbrev pub invariant-loop-at : goal.invariant-loop-at
invariant-loop-at g l =
    let m = g.G.Gather in
    Passing l.live l.recording (level m.depth m.parent m.make l.recording)
    (level_law m.depth m.parent m.make m.laws l.recording) l.initial.at l.end l.initial.value l.at l.value

abbrev pub decreases-loop-at : goal.decreases-loop-at
decreases-loop-at g l = l.end - l.at
