-- `read_recording`: each read brings something, and it fits what is left of the room.
use Rattle.std.proofs.Common.{◌-◌, ◌≤◌, length}
use Rattle.rows.proofs.read_recording.Given as goal

abbrev pub invariant-loop-held : goal.invariant-loop-held
invariant-loop-held l = l.held ≤ length l.room

abbrev pub decreases-loop-held : goal.decreases-loop-held
decreases-loop-held l = length l.initial.room - l.held
