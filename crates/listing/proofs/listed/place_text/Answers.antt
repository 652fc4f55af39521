-- `place_text` meets its contract: three labelled numbers and the line's end. Assumes nothing.
use native.Mathlib.Omega.{arith}
use Rattle.listing_rules.specs.Listing.{place_text}
use Rattle.pages.specs.Text.{ascii}
use Rattle.pages.proofs.Pages.{grew_twice, grew_labelled}
use Rattle.listing.proofs.listed.place_text.Goals as goal

pub returns-clause-wrote : goal.returns-clause-wrote
unfolding place_text
returns-clause-wrote c =
    let p = c.args.page.now in
    let room = c.requires in
    let a = c.put_decimal in
    let b = c.put_decimal-2 in
    let d = c.put_decimal-3 in
    let e = c.put.ensures.0.ends in
    let two = grew_labelled p _ a.new.self (ascii " size ") _ b.new.self a.ensures.wrote b.ensures.wrote (omega arith) in
    let three = grew_labelled p _ b.new.self (ascii " rows ") _ d.new.self two d.ensures.wrote (omega arith) in
    grew_twice p _ d.new.self _ c.put.new.self three c.put.ensures (omega arith)
