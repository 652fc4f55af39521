-- `audio_in` meets its contract: field by field. Assumes nothing.
use Rattle.media_rules.specs.Records.{audio_of}
use Rattle.locate_rules.proofs.Lists.{then}
use Rattle.media.proofs.audio.audio_in.Goals as goal

pub returns : goal.returns
unfolding audio_of
returns c = search then depth 7
