-- `audio_at` meets its contract: the master is found, and its fields are told. Assumes nothing.
use Rattle.media_rules.specs.Records.{audio_of}
use Rattle.locate_rules.proofs.Told.{readable_at, told_below}
use Rattle.media.proofs.audio.audio_at.Goals as goal

pub invariant_of-fields : goal.invariant_of-fields
invariant_of-fields c = record { readable = readable_at c.locate.ensures c.in_ok-master.was }

pub returns : goal.returns
returns c = told_below audio_of c.locate.ensures c.in_ok-master.was c.audio_in.ensures
