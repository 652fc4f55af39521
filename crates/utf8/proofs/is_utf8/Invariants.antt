-- `is_utf8` meets its promise: the octets that are left decide as all of them. Assumes nothing.
use Rattle.std.proofs.Common.{◌≡◌, [], length}
use Rattle.utf8.specs.Utf8.{goes_on}
use Rattle.utf8.proofs.is_utf8.Given as goal

abbrev pub invariant-loop-rest : goal.invariant-loop-rest
invariant-loop-rest l = goes_on [] l.bytes ≡ goes_on [] l.rest

abbrev pub decreases-loop-rest : goal.decreases-loop-rest
decreases-loop-rest l = length l.rest
