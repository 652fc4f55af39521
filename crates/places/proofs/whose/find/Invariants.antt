-- What the loop of `find` keeps: the rows before row n do not hold the address.
use Rattle.places_rules.proofs.Spots.{Walk}
use Rattle.places.proofs.whose.find.Given as goal

abbrev pub invariant-loop-n : goal.invariant-loop-n
invariant-loop-n l = Walk l.table l.rows l.address l.n
