-- `is_marked` meets its contract: octets hold a marker where any of them is not 0. Assumes nothing.
use mathlib.Core.Path.{◌∙◌}
use lib.Dec.{eqb}
use Rattle.std.proofs.Common.{rules, tests, not}
use Rattle.std.proofs.lemmas.Iterator.{YieldsList-from_slice}
use Rattle.std.proofs.lemmas.Iterator.Search.{any_from_yields_List}
use Rattle.header.proofs.Widths.{marked_any}
use Rattle.header.proofs.cursor.is_marked.Goals as goal

pub returns : goal.returns
returns c =
    any_from_yields_List (λ b. not (eqb b 0)) _ _ _ c.any.ensures.ran (YieldsList-from_slice c.args.octets.now cc)
    (λ x b q k. search (rules, tests))
    ∙ marked_any c.args.octets.now (λ i. (c.type_inv.octets i).fits)
