-- `is_utf8` meets its promise: the octets that are left decide for all of them. Assumes nothing.
use mathlib.Core.Path.{refl, ◌∙◌, sym}
use borrow.Author.Tests.{ltb-true}
use Rattle.utf8.specs.Utf8.{utf8}
use Rattle.utf8.proofs.Steps.{first_ascii, no_char, begins, at_end}
use Rattle.utf8.proofs.is_utf8.Goals as goal

pub loop-rest-init : goal.loop-rest-init
loop-rest-init c = refl

pub loop-rest-preserved-then-is_ascii : goal.loop-rest-preserved-then-is_ascii
loop-rest-preserved-then-is_ascii c =
    c.loop-rest.invariant
    ∙ first_ascii _ c.in-len1-up.len_at_least (ltb-true _ _ (sym c.is_ascii.ensures ∙ c.if-is_ascii.true))
    ∙ c.past_ascii-rest.ensures.0

pub returns-in_default-lead_of : goal.returns-in_default-lead_of
unfolding utf8
returns-in_default-lead_of c =
    record { answer = sym (c.loop-rest.invariant ∙ no_char _ c.in-len1-up.len_at_least (c.in_default-lead_of.ensures)) }

pub returns-in_default-past : goal.returns-in_default-past
unfolding utf8
returns-in_default-past c =
    record {
      answer = sym (c.loop-rest.invariant
          ∙ begins _ c.in-len1-up.len_at_least c.in-Some.lead c.in-Some.ensures ∙ c.in_default-past.ensures);
    }

pub loop-rest-preserved : goal.loop-rest-preserved
loop-rest-preserved c =
    c.loop-rest.invariant
    ∙ begins _ c.in-len1-up.len_at_least c.in-Some.lead c.in-Some.ensures ∙ c.in-Some-past.ensures.0

pub returns : goal.returns
unfolding utf8
returns c = record { answer = sym (c.loop-rest.invariant ∙ at_end _ c.in_default.len_below) }
