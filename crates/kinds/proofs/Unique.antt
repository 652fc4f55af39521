-- Any two replies that the promise of `kind_of` permits are equal. Assumes nothing.
use mathlib.Core.Path.{◌∙◌, sym}
use Rattle.kinds.specs.Theorems.{OneReply}
use Rattle.kinds.proofs.Numbers.{number_tells}

pub kind_unique : OneReply
kind_unique id parent r r' p p' = number_tells r r' (p.reply ∙ sym p'.reply)
