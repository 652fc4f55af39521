-- `put_bytes`: the bytes so far stand in hexadecimal digits behind what was gathered before them.
use Rattle.std.proofs.Common.{take}
use Rattle.std.specs.List.{flat_map}
use Rattle.lines.specs.Gathered.{TakesOrFails, StaysFailed, two_digits}
use Rattle.lines.proofs.out.Out.put_bytes.Given as goal

abbrev pub invariant-loop-byte : goal.invariant-loop-byte
invariant-loop-byte l = TakesOrFails l.initial.self (flat_map two_digits (take l.byte-index l.bytes)) l.self × StaysFailed l.initial.self l.self
