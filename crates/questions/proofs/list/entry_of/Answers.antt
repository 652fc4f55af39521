-- `entry_of` meets its contract: the line that is looked at stands at its number in the list. Assumes nothing.
use Rattle.std.proofs.Common.{◌≡◌, refl, ℕ, ◌<◌, eqb, List, length, get_or, Some, ap, ◌∙◌, arith, rules, tests}
use Rattle.std.specs.List.{slice_get, enumerate_from}
use Rattle.std.proofs.lemmas.Iterator.Consumers.{YieldsList-at, YieldsList-from_enumerate, YieldsList-turn}
use Rattle.std.proofs.lemmas.Iterator.Splits.{YieldsList-from_slice_split}
use Rattle.std.proofs.lemmas.List.FromFn.{length-enumerate_from, get_or-enumerate_from}
use Rattle.std.proofs.lemmas.Option.{slice_get_read}
use Rattle.questions.specs.Bounds.{lines_of}
use Rattle.questions.proofs.list.entry_of.Goals as goal

numbered :
    (ls : List (List ℕ)) (i n : ℕ) (l : List ℕ)
    → (i < length (enumerate_from 0 ls)) × ((n, l) ≡ get_or (enumerate_from 0 ls) i (n, l)) → slice_get ls n ≡ Some l
numbered ls i n l h =
    let within : i < length ls = omega (arith, h.0, length-enumerate_from 0 ls) in
    let at = h.1 ∙ get_or-enumerate_from 0 ls i (n, l) within in
    let place : n ≡ i = omega (arith, ap (λ (p : ℕ × List ℕ). p.0) at) in
    rw place (slice_get_read ls (length ls) i l refl within (ap (λ (p : ℕ × List ℕ). p.1) at))

pub returns-then-eq-clause-in_list : goal.returns-then-eq-clause-in_list
returns-then-eq-clause-in_list c =
    let e = c.split.ensures in
    let t = c.enumerate-number-items.ensures in
    numbered (lines_of c.args.list.now) _ _ _
    (YieldsList-turn
    (YieldsList-at c.into_iter-number-iterator.ensures.into_iter_gives
    (YieldsList-from_enumerate
    (YieldsList-at t.source
    (YieldsList-from_slice_split _ (λ b. eqb b 10) c.args.list.now e.rest e.done e.closure
    (λ x b q k. search (rules, tests))))
    t.count))
    c.loop-number.yielded _ c.loop-number.yielded_by _ _ _ c.in-Some.is c.next.ensures.steps)
