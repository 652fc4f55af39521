-- `uid_at` meets its contract: the last Targets of the tag, and then the member. Assumes nothing.
use borrow.Author.Tests.{tests}
use mathlib.Core.Path.{◌≡◌}
use Rattle.std.proofs.Common.{Err, rules}
use Rattle.locate_rules.proofs.Told.{readable_at}
use Rattle.tags_rules.proofs.Tags.{uid_refused, uid_none, uid_found}
use Rattle.tags.proofs.uid.uid_at.Goals as goal

pub invariant_of-fields : goal.invariant_of-fields
invariant_of-fields c = record { readable = readable_at c.locate.ensures c.in_ok-master.was }

pub returns-in_err-master : goal.returns-in_err-master
returns-in_err-master c =
    let handed : c.from_residual.result ≡ Err c.in_err-master.field-0.0 = search (rules, tests) in
    rw handed (uid_refused _ c.locate.ensures _ _ c.in_err-master.was)

pub returns-in_default : goal.returns-in_default
returns-in_default c =
    uid_none _ c.locate.ensures _ _ c.in_ok-master.was c.uid_in.result c.uid_in.ensures (search (rules, tests))
    c.no_record.ensures.0 (search rules) c.no_record.ensures.1

pub returns : goal.returns
returns c = uid_found _ c.locate.ensures _ _ c.in_ok-master.was _ c.uid_in.ensures c.in-Some.is
