-- `row_place` meets its contract: four numbers, a space between them. Assumes nothing.
use native.Mathlib.Omega.{arith}
use Rattle.rowtext.specs.Lines.{row_place}
use Rattle.pages.specs.Text.{ascii}
use Rattle.pages.proofs.Pages.{grew_labelled}
use Rattle.rowtext.proofs.row.row_place.Goals as goal

pub returns-clause-wrote : goal.returns-clause-wrote
unfolding row_place
returns-clause-wrote c =
    let p = c.args.page.now in
    let room = c.requires in
    let a = c.put_decimal in
    let b = c.put_decimal-2 in
    let d = c.put_decimal-3 in
    let e = c.put_decimal-4 in
    let two = grew_labelled p _ a.new.self (ascii " ") _ b.new.self a.ensures.wrote b.ensures.wrote (omega arith) in
    let three = grew_labelled p _ b.new.self (ascii " ") _ d.new.self two d.ensures.wrote (omega arith) in
    grew_labelled p _ d.new.self (ascii " ") _ e.new.self three e.ensures.wrote (omega arith)
