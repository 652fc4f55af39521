-- `Page::put_number` meets its contract: the label, and then the digits. Assumes nothing.
use mathlib.Core.Path.{◌∙◌}
use Rattle.std.proofs.Common.{rules}
use Rattle.pages.proofs.Pages.{whole_end, labelled_number}
use Rattle.pages.proofs.page.Page.put_number.Goals as goal

pub returns-clause-wrote : goal.returns-clause-wrote
returns-clause-wrote c =
    let spelt = whole_end c.spell-first.new.text c.spell-first.result (search rules)
    ∙ c.spell-first.ensures.text_after in
    let whole = labelled_number _ _ _ _ _ _ _ _ _ _ c.requires.label_in_bounds
    c.put.ensures.0 c.put-2.ensures.0 spelt in
    (whole.0, c.put-2.ensures.1 ∙ c.put.ensures.1)
