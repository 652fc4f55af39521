-- `parent_of` meets its contract: each part is an arm of its own. Assumes nothing.
use mathlib.Core.Path.{refl, ap, sym}
use borrow.Author.Tests.{ne_eqb}
use Rattle.search_rules.specs.Part.{parent_of}
use native.Mathlib.Omega.{arith}
use Rattle.search.proofs.part.parent_of.Goals as goal

pub returns-in-374648427 : goal.returns-in-374648427
unfolding parent_of
returns-in-374648427 c = ap parent_of (sym c.in-374648427.is)

pub returns-in-423732329 : goal.returns-in-423732329
unfolding parent_of
returns-in-423732329 c = ap parent_of (sym c.in-423732329.is)

pub returns-in-272869232 : goal.returns-in-272869232
unfolding parent_of
returns-in-272869232 c = ap parent_of (sym c.in-272869232.is)

pub returns-in-307544935 : goal.returns-in-307544935
unfolding parent_of
returns-in-307544935 c = ap parent_of (sym c.in-307544935.is)

pub returns-in_default : goal.returns-in_default
unfolding parent_of
returns-in_default c =
    let id = c.args.part in
    rw (
      ne_eqb id 0x1654AE6B (omega arith),
      ne_eqb id 0x1941A469 (omega arith),
      ne_eqb id 0x1043A770 (omega arith),
      ne_eqb id 0x1254C367 (omega arith),
    )
    refl
