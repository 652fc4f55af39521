-- Any two answers that `is_utf8` may give to one question are equal (`OneReply`). Assumes nothing.
use mathlib.Core.Path.{◌∙◌, sym}
use Rattle.utf8.specs.Theorems.{OneReply}

pub utf8_unique : OneReply
utf8_unique s r r' p q = p.answer ∙ sym q.answer
