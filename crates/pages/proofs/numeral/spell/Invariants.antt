-- `spell` meets its contract: the digits from the last to the first. Assumes nothing.
use Rattle.pages.proofs.Numerals.{Spelling}
use Rattle.pages.proofs.numeral.spell.Given as goal

abbrev pub invariant-loop-rest : goal.invariant-loop-rest
invariant-loop-rest l = Spelling l.base l.value l.text l.first l.rest

abbrev pub decreases-loop-rest : goal.decreases-loop-rest
decreases-loop-rest l = l.rest
