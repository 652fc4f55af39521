-- A Seek with one more member. Assumes nothing.
use Rattle.seekhead_rules.proofs.Members.{member_more}
use Rattle.seekhead.proofs.seek.SeekGather.with.Goals as goal

pub noted-requires : goal.noted-requires
noted-requires c = (c.skim_body.ensures.body _ c.in_ok-body.was).inside

pub returns : goal.returns
returns c =
    member_more _ _ _ _ c.requires.there _ (c.skim_body.ensures.body _ c.in_ok-body.was) _ c.noted.ensures
