-- A table with one more child of a head. Assumes nothing.
use mathlib.Core.Path.{sym, ◌∙◌}
use Rattle.booleans.proofs.Handed.{handed}
use Rattle.elements_rules.proofs.Parts.{step_read}
use Rattle.seekhead_rules.proofs.Members.{seek_refusal, seek_more, other_more}
use Rattle.seekhead.proofs.head.EntriesGather.with.Goals as goal

pub seek_body-requires : goal.seek_body-requires
seek_body-requires c =
    let p = c.requires in
    record { small = p.small; there = (step_read _ _ _ _ p.there).1 }

pub returns-in_err-seek : goal.returns-in_err-seek
returns-in_err-seek c =
    handed _ c.from_residual.ensures.1
    ∙ seek_refusal _ _ _ _ c.requires.there c.if-child-eq-SEEK.true _ (sym c.in_err-seek.was ∙ c.seek_body.ensures)

pub returns-then-child-eq-SEEK : goal.returns-then-child-eq-SEEK
returns-then-child-eq-SEEK c =
    seek_more _ _ _ _ c.requires.there c.if-child-eq-SEEK.true _
    (sym c.in_ok-seek.was ∙ c.seek_body.ensures) _ c.insert.ensures

pub returns : goal.returns
returns c = other_more _ _ _ _ c.if-child-eq-SEEK.false _ (c.skim_body.ensures.body _ c.in_ok-skim_body.was)
