-- `video_in` meets its contract: field by field. Assumes nothing.
use Rattle.media_rules.specs.Records.{video_of}
use Rattle.locate_rules.proofs.Lists.{then}
use Rattle.media_rules.proofs.Said.{said_of_law}
use Rattle.media.proofs.video.video_in.Goals as goal

pub returns : goal.returns
unfolding video_of
returns c = search (then, said_of_law) depth 13
