-- `all_parts` meets its contract: the four parts, one after another. Assumes nothing.
use native.Mathlib.Omega.{arith}
use Rattle.listing_rules.specs.Listing.{all_parts}
use Rattle.pages.proofs.Pages.{grew_twice}
use Rattle.listing.proofs.listed.all_parts.Goals as goal

pub returns-clause-wrote : goal.returns-clause-wrote
unfolding all_parts
returns-clause-wrote c =
    let p = c.args.page.now in
    let room = c.requires in
    let a = c.part_lines in
    let b = c.part_lines-2 in
    let d = c.part_lines-3 in
    let e = c.part_lines-4 in
    let two = grew_twice p _ a.new.page _ b.new.page a.ensures.wrote b.ensures.wrote (omega arith) in
    let three = grew_twice p _ b.new.page _ d.new.page two d.ensures.wrote (omega arith) in
    grew_twice p _ d.new.page _ e.new.page three e.ensures.wrote (omega arith)
