-- `word_count` meets its contract: the parts between spaces are counted. Assumes nothing.
use Rattle.std.proofs.Common.{eqb, rules, tests}
use Rattle.std.proofs.lemmas.Iterator.Consumers.{count_from_yields_List}
use Rattle.std.proofs.lemmas.Iterator.Splits.{YieldsList-from_slice_split}
use Rattle.words.proofs.word_count.Goals as goal

pub returns : goal.returns
returns c =
    let e = c.split.ensures in
    count_from_yields_List c.split.result _ c.count.ensures.ran
    (YieldsList-from_slice_split _ (λ b. eqb b 32) c.args.line.now e.rest e.done e.closure
    (λ x b q k. search (rules, tests)))
