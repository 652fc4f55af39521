-- `next_met`: what is met first among the segment's children. Assumes nothing.
use mathlib.Core.Path.{◌≡◌, sym, ap, ◌∙◌}
use Rattle.std.proofs.Common.{Result, Option, Ok, Some}
use Rattle.refusals.specs.declared.refusal.Refusal.{Refusal}
use Rattle.segments_rules.specs.declared.walk.Met.{Met}
use Rattle.booleans.proofs.Handed.{handed}
use Rattle.segments_rules.proofs.Meetings.{head_met}
use Rattle.open_rules.proofs.Going.{meet_refused, meet_end, meet_head, meet_part}
use Rattle.opening.proofs.turns.next_met.Goals as goal

-- What is met is this.
met : {r told : Result (Option Met) Refusal} {x : Option Met} {y z : Met} → told ≡ r → told ≡ Ok x → x ≡ Some y → y ≡ z
    → r ≡ Ok (Some z)
met e f g h = sym e ∙ f ∙ ap Ok (g ∙ ap Some h)

pub returns-in_err-meet : goal.returns-in_err-meet
returns-in_err-meet c =
    meet_refused _ _ _ _ _ (sym c.meet.ensures ∙ c.in_err-meet.was) _ (handed _ c.from_residual.ensures.1)

pub from_head-requires : goal.from_head-requires
from_head-requires c =
    let m = head_met _ _ _ _ _ _ (met c.meet.ensures c.in_ok-meet.was c.in-Some-Head.is c.in-Some-Head.field-0-is) in
    record { small = c.requires.small; there = m.0.stepped.there }

pub returns-in-None : goal.returns-in-None
returns-in-None c =
    meet_end _ _ _ _ (sym c.meet.ensures ∙ c.in_ok-meet.was ∙ ap Ok c.in-None.is)

pub returns-in-Some-Head : goal.returns-in-Some-Head
returns-in-Some-Head c =
    meet_head _ _ _ _ _ (met c.meet.ensures c.in_ok-meet.was c.in-Some-Head.is c.in-Some-Head.field-0-is) _
    c.from_head.ensures

pub returns-in-Some-Part : goal.returns-in-Some-Part
returns-in-Some-Part c =
    meet_part _ _ _ _ _ (met c.meet.ensures c.in_ok-meet.was c.in-Some-Part.is c.in-Some-Part.field-0-is) _
    c.named.ensures c.requires
