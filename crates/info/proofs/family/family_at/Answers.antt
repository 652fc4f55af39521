-- `family_at` meets its contract: the payload is read, and then the family looked up. Assumes nothing.
use borrow.Author.Tests.{tests}
use mathlib.Core.Path.{◌≡◌}
use Rattle.std.proofs.Common.{Err, rules}
use Rattle.locate_rules.proofs.Told.{readable_at}
use Rattle.info_rules.proofs.Families.{family_refused, family_none, family_found}
use Rattle.info.proofs.family.family_at.Goals as goal

pub invariant_of-fields : goal.invariant_of-fields
invariant_of-fields c = record { readable = readable_at c.locate.ensures c.in_ok-master.was }

pub returns-in_err-master : goal.returns-in_err-master
returns-in_err-master c =
    let handed : c.from_residual.result ≡ Err c.in_err-master.field-0.0 = search (rules, tests) in
    rw handed (family_refused c.locate.ensures _ c.in_err-master.was)

pub returns-in_default : goal.returns-in_default
returns-in_default c =
    family_none c.locate.ensures _ c.in_ok-master.was c.family_in.result c.family_in.ensures (search (rules, tests))
    c.no_record.ensures.0 (search rules) c.no_record.ensures.1

pub returns : goal.returns
returns c = family_found c.locate.ensures _ c.in_ok-master.was _ c.family_in.ensures c.in-Some.is
