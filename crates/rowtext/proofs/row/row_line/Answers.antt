-- `row_line` meets its contract: where the row is, its kind, its id. Assumes nothing.
use native.Mathlib.Omega.{arith}
use Rattle.rowtext.specs.Lines.{row_line}
use Rattle.pages.specs.Text.{ascii}
use Rattle.pages.proofs.Pages.{grew_twice, grew_labelled}
use Rattle.rowtext.proofs.row.row_line.Goals as goal

pub returns-clause-wrote : goal.returns-clause-wrote
unfolding row_line
returns-clause-wrote c =
    let p = c.args.page.now in
    let room = c.requires in
    let a = c.row_place in
    let b = c.put_kind in
    let d = c.put_hexadecimal in
    let e = c.put.ensures.0.ends in
    let two = grew_labelled p _ a.new.page (ascii " ") _ b.new.page a.ensures.wrote b.ensures.wrote (omega arith) in
    let three = grew_labelled p _ b.new.page (ascii " ") _ d.new.self two d.ensures.wrote (omega arith) in
    grew_twice p _ d.new.self _ c.put.new.self three c.put.ensures (omega arith)
