-- `locate` meets its contract: the read's refusals, 15, or the rows below the master. Assumes nothing.
use mathlib.Core.Path.{◌≡◌}
use borrow.Author.Tests.{tests}
use Rattle.std.proofs.Common.{Err, rules}
use Rattle.locate_rules.proofs.Settled.{read_ordered, read_refused, found_none, found_at}
use Rattle.locate.proofs.steps.locate.Goals as goal

pub returns-in_err-rows : goal.returns-in_err-rows
returns-in_err-rows c =
    let handed : c.from_residual.result ≡ Err c.in_err-rows.field-0.0 = search (rules, tests) in
    rw handed (read_refused c.read.ensures c.args.way c.in_err-rows.was)

pub find-requires : goal.find-requires
find-requires c = read_ordered c.read.ensures c.in_ok-rows.was

pub returns-in_default : goal.returns-in_default
returns-in_default c =
    found_none c.read.ensures c.args.way c.in_ok-rows.was c.find.ensures (search (rules, tests)) c.no_record.ensures.0
    c.no_record.ensures.1

pub returns : goal.returns
returns c = found_at c.read.ensures c.args.way c.in_ok-rows.was c.find.ensures c.in-Some.is
