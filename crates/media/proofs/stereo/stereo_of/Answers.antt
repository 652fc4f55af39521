-- `stereo_of` meets its contract: a set number by its mode. Assumes nothing.
use Rattle.media_rules.specs.Video.{stereo}
use Rattle.media_rules.proofs.Said.{said_unset, said_is}
use Rattle.media.proofs.stereo.stereo_of.Goals as goal

pub returns-in_err-number : goal.returns-in_err-number
returns-in_err-number c = rw c.from_residual.ensures (said_unset stereo c.in_err-number.was)

pub returns : goal.returns
returns c = said_is stereo c.in_ok-number.was c.mode_of.ensures
