-- `attachment_in` meets its contract: field by field. Assumes nothing.
use Rattle.attachments.specs.Records.{attachment_of}
use Rattle.locate_rules.proofs.Lists.{then}
use Rattle.attachments.proofs.attachment.attachment_in.Goals as goal

pub returns : goal.returns
unfolding attachment_of
returns c = search then depth 8
