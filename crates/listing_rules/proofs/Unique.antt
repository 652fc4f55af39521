-- Any two listings that the promise permits are equal (`OneListing`). Assumes nothing.
use mathlib.Core.Path.{sym, ◌∙◌}
use Rattle.listing_rules.specs.Theorems.{OneListing}

pub listing_unique : OneListing
listing_unique live s page r r' page' page'' p q = (p.reply ∙ sym q.reply, p.text ∙ sym q.text)
