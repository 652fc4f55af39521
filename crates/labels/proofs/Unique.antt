-- Any two labels that the promise permits are equal (`OneLabel`). Assumes nothing.
use mathlib.Core.Path.{sym, ◌∙◌}
use Rattle.labels.specs.Theorems.{OneLabel}

pub label_unique : OneLabel
label_unique s string own part part' p q = p.reply ∙ sym q.reply
