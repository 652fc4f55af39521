-- `spell` meets its contract: the digits from the last to the first. Assumes nothing.
use native.Mathlib.Omega.{arith}
use Rattle.pages.proofs.Numerals.{spelling_starts, spelling_goes_on, spelling_ends}
use Rattle.pages.proofs.numeral.spell.Goals as goal

pub loop-rest-preserved : goal.loop-rest-preserved
loop-rest-preserved c =
    spelling_goes_on _ c.requires.lt_base _ _ _ _ _ c.loop-rest-test.true c.glyph.ensures
    c.loop-rest.invariant

pub returns : goal.returns
returns c =
    let i = c.loop-rest.invariant in
    let f = i.few in
    record {
      upper_bound = omega arith;
      text_after = spelling_ends _ c.requires.lt_base _ _ _ _ _ c.loop-rest-test.false c.glyph-2.ensures i;
    }

pub loop-rest-init : goal.loop-rest-init
loop-rest-init c = spelling_starts _ c.requires.lt_base _ _ c.told-text c.requires.value_bound
