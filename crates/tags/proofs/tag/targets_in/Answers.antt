-- `targets_in` meets its contract: the last Targets, with the rows below it. Assumes nothing.
use native.Mathlib.Omega.{arith}
use Rattle.locate_rules.proofs.Ways.{within}
use Rattle.locate_rules.proofs.Inner.{inner_known, inner_fits, inner_readable}
use Rattle.tags_rules.proofs.Tags.{no_targets, are_targets}
use Rattle.tags.proofs.tag.targets_in.Goals as goal

pub last_child-requires : goal.last_child-requires
last_child-requires c = search within

pub returns-in_err-number : goal.returns-in_err-number
returns-in_err-number c =
    let unset = c.in_err-number.was in rw c.from_residual.ensures (no_targets c.requires c.last_child.ensures unset)

pub overflow_add-number : goal.overflow_add-number
overflow_add-number c = let is = c.in_ok-number.was in search (inner_fits, arith)

pub rows_below-requires : goal.rows_below-requires
rows_below-requires c = let is = c.in_ok-number.was in search inner_known

pub invariant_of-fields : goal.invariant_of-fields
invariant_of-fields c = record { readable = inner_readable c.requires.filled c.rows_below.ensures }

pub returns : goal.returns
returns c = let is = c.in_ok-number.was in search are_targets
