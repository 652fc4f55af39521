-- `interlaced_of` meets its contract: each number is an arm of its own. Assumes nothing.
use Rattle.media_rules.proofs.Said.{said_is}
use Rattle.media_rules.proofs.Numbers.{neither}
use Rattle.media.proofs.video.interlaced_of.Goals as goal

pub returns-in_default : goal.returns-in_default
returns-in_default c = let is = c.in_ok-number.was in search (said_is, neither)
