-- `put`: the bytes so far stand behind what was gathered, and a failed write stays failed.
use Rattle.std.proofs.Common.{take}
use Rattle.lines.specs.Gathered.{StaysFailed, Takes}
use Rattle.lines.proofs.out.Out.put.Given as goal

abbrev pub invariant-loop-byte : goal.invariant-loop-byte
invariant-loop-byte l = Takes l.initial.self (take l.byte-index l.bytes) l.self × StaysFailed l.initial.self l.self
