-- `read_part` meets its contract: each part is an arm of its own. Assumes nothing.
use Rattle.open_rules.proofs.Lending.{into_info, into_tracks, into_attachments, into_chapters, into_tags}
use Rattle.open.proofs.lent.read_part.Goals as goal

pub read_again-requires : goal.read_again-requires
read_again-requires c =
    rw c.in-Info.is at c.requires

pub read_again-requires-in-Tracks : goal.read_again-requires-in-Tracks
read_again-requires-in-Tracks c =
    rw c.in-Tracks.is at c.requires

pub read_again-requires-in-Attachments : goal.read_again-requires-in-Attachments
read_again-requires-in-Attachments c =
    rw c.in-Attachments.is at c.requires

pub read_again-requires-in-Chapters : goal.read_again-requires-in-Chapters
read_again-requires-in-Chapters c =
    rw c.in-Chapters.is at c.requires

pub read_again-requires-in-Tags : goal.read_again-requires-in-Tags
read_again-requires-in-Tags c =
    rw c.in-Tags.is at c.requires

pub returns-in-Info-clause-reads : goal.returns-in-Info-clause-reads
returns-in-Info-clause-reads c =
    into_info _ _ _ _ _ _ c.parent-parent.ensures _ _ _ _ _ _ _ c.in-Info.is c.read_again.ensures

pub returns-in-Tracks-clause-reads : goal.returns-in-Tracks-clause-reads
returns-in-Tracks-clause-reads c =
    into_tracks _ _ _ _ _ _ c.parent-parent.ensures _ _ _ _ _ _ _ c.in-Tracks.is c.read_again-in-Tracks.ensures

pub returns-in-Attachments-clause-reads : goal.returns-in-Attachments-clause-reads
returns-in-Attachments-clause-reads c =
    into_attachments _ _ _ _ _ _ c.parent-parent.ensures _ _ _ _ _ _ _ c.in-Attachments.is
    c.read_again-in-Attachments.ensures

pub returns-in-Chapters-clause-reads : goal.returns-in-Chapters-clause-reads
returns-in-Chapters-clause-reads c =
    into_chapters _ _ _ _ _ _ c.parent-parent.ensures _ _ _ _ _ _ _ c.in-Chapters.is c.read_again-in-Chapters.ensures

pub returns-in-Tags-clause-reads : goal.returns-in-Tags-clause-reads
returns-in-Tags-clause-reads c =
    into_tags _ _ _ _ _ _ c.parent-parent.ensures _ _ _ _ _ _ _ c.in-Tags.is c.read_again-in-Tags.ensures
