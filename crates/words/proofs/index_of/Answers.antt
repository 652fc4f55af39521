-- `index_of` meets its contract: the parts between spaces are searched. Assumes nothing.
use Rattle.std.proofs.Common.{eqb, bytes_eq, rules, tests}
use Rattle.std.proofs.lemmas.Iterator.Search.{position_from_yields_List}
use Rattle.std.proofs.lemmas.Iterator.Splits.{YieldsList-from_slice_split}
use Rattle.words.proofs.index_of.Goals as goal

pub returns : goal.returns
returns c =
    let e = c.split.ensures in
    position_from_yields_List (λ w. bytes_eq w c.args.word.now) _ _ _ c.position.ensures.ran
    (YieldsList-from_slice_split _ (λ b. eqb b 32) c.args.list.now e.rest e.done e.closure
    (λ x b q k. search (rules, tests)))
    (λ x b q k. search (rules, tests))
