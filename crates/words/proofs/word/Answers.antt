-- `word` meets its contract: the parts between spaces are the words. Assumes nothing.
use Rattle.std.proofs.Common.{◌≡◌, eqb, [], sym, ap, ◌∙◌, rules, tests, option_map, unwrap_or}
use Rattle.std.specs.List.{slice_get}
use Rattle.std.proofs.lemmas.Iterator.Consumers.{nth_from_yields_List}
use Rattle.std.proofs.lemmas.Iterator.Splits.{YieldsList-from_slice_split}
use Rattle.std.proofs.lemmas.Option.{unwrap_or-slice_get}
use Rattle.words.specs.Words.{words_of}
use Rattle.words.proofs.Parted.{word_is, read_or}
use Rattle.words.proofs.word.Goals as goal

pub returns : goal.returns
returns c =
    let s = c.args.line.now in
    let k = c.args.k in
    let e = c.split.ensures in
    let part : option_map (λ x. x.now) c.nth.result ≡ slice_get (words_of s) k =
    nth_from_yields_List _ _ _ c.nth.ensures.ran
    (YieldsList-from_slice_split _ (λ b. eqb b 32) s e.rest e.done e.closure (λ x b q k. search (rules, tests))) in
    ap (λ r. r.now) c.unwrap_or.ensures ∙ read_or (λ x. x.now) c.nth.result _ ∙ ap (λ r. unwrap_or r []) part
    ∙ unwrap_or-slice_get _ k [] ∙ sym (word_is s k)
