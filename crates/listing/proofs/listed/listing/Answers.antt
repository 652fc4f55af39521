-- `listing` meets its contract: 14, or the first line and the parts. Assumes nothing.
use Rattle.pages.proofs.Pages.{then}
use Rattle.listing_rules.proofs.PartTexts.{listing_is, too_long, not_too_long}
use borrow.Author.Rules.{rules}
use Rattle.listing.proofs.listed.listing.Goals as goal

pub returns-then-recording-gt-MOST_LISTED : goal.returns-then-recording-gt-MOST_LISTED
returns-then-recording-gt-MOST_LISTED c =
    let w = c.put.ensures.0 in
    let e = w.ends in
    listing_is _ _ _ _ _ _ (too_long _ _ c.if-recording-gt-MOST_LISTED.true) (search rules) w

pub returns : goal.returns
returns c =
    let first = c.put_decimal.ensures in
    let end = c.put-2.ensures.0 in
    let e = end.ends in
    let parts = c.all_parts.ensures in
    let line = then _ _ _ _ _ _ _ _ first.wrote.0 end (search rules) in
    let whole = then _ _ _ _ _ _ _ _ line parts.wrote.0 (search rules) in
    listing_is _ _ _ _ _ _ (not_too_long _ _ c.if-recording-gt-MOST_LISTED.false) (search rules) whole
