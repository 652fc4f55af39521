-- Any two replies that the promise of `body_at` permits are equal, and a refusal is one of document 01's list. Assumes
-- nothing.
use mathlib.Core.Path.{◌≡◌, refl, ap, sym, ◌∙◌}
use Rattle.refusals.specs.Reply.{Reply, accepted, refusal}
use Rattle.refusals.proofs.Listed.{listed}
use Rattle.bodies_rules.specs.Promise.{body_told}
use Rattle.bodies_rules.specs.Theorems.{OneReply, RefusesListed}
use Rattle.bodies_rules.specs.declared.body.Body.{Body}
use Rattle.std.proofs.Common.{Result, Ok, Err}
use Rattle.refusals.specs.declared.refusal.Refusal.{Refusal}

-- What was told tells the reply.
abbrev replied : Reply Body → Result Body Refusal
replied (accepted b) = Ok b
replied (refusal e) = Err e

replied_back : (r : Result Body Refusal) → replied (body_told r) ≡ r
replied_back (Ok b) = refl
replied_back (Err e) = refl

pub body_unique : OneReply
body_unique s id parent at size address r r' p p' =
    sym (replied_back r) ∙ ap replied (p.reply ∙ sym p'.reply) ∙ replied_back r'

pub body_refuses_listed : RefusesListed
body_refuses_listed s id parent at size address e p = listed e
