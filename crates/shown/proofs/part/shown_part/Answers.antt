-- `shown_part` meets its contract: what stands before the first zero byte. Assumes nothing.
use mathlib.Core.Path.{sym, ◌∙◌}
use lib.Dec.{eqb}
use Rattle.std.proofs.Common.{rules, tests}
use Rattle.std.proofs.lemmas.Iterator.{YieldsList-from_slice}
use Rattle.std.proofs.lemmas.Iterator.Search.{position_from_yields_List}
use Rattle.shown_rules.proofs.Zeros.{before_first_zero, no_zero}
use Rattle.shown.proofs.part.shown_part.Goals as goal

pub returns-in-Some : goal.returns-in-Some
returns-in-Some c =
    let place =
    position_from_yields_List (λ b. eqb b 0) _ _ c.position.result c.position.ensures.ran
    (YieldsList-from_slice c.args.text.now cc) (λ x b q k. search (rules, tests)) in
    before_first_zero _ _ (sym place ∙ c.in-Some.is)

pub returns-in-None : goal.returns-in-None
returns-in-None c =
    let place =
    position_from_yields_List (λ b. eqb b 0) _ _ c.position.result c.position.ensures.ran
    (YieldsList-from_slice c.args.text.now cc) (λ x b q k. search (rules, tests)) in
    no_zero _ (sym place ∙ c.in-None.is)
