-- `big_endian` meets its contract: the loop has read the number of the octets passed. Assumes nothing.
use mathlib.Core.Path.{◌≡◌}
use Prim.Native.Nat.{◌<◌, ◌*◌, ◌^◌}
use lib.ListN.{drop, take}
use Rattle.header.specs.Vint.{big_endian}
use Rattle.header.proofs.cursor.big_endian.Given as goal

abbrev pub invariant-loop-octet : goal.invariant-loop-octet
invariant-loop-octet l =
    (l.value ≡ big_endian (take l.octet-index (drop l.at l.recording))) × (l.value < 2 ^ (8 * l.octet-index))
