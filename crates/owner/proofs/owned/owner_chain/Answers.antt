-- `owner_chain` meets its contract: 14, 15, the walk in a cleared slice, which a refusal clears again. Assumes nothing.
use mathlib.Core.Path.{sym, ◌∙◌}
use Rattle.elements_rules.proofs.Whole.{zeros_as}
use Rattle.owner_rules.proofs.Asked.{first_true, asked_same, bytes_allowed}
use Rattle.owner_rules.proofs.Asked.{asked_broken, asked_outside, asked_refused, asked_owned}
use Rattle.owner.proofs.owned.owner_chain.Goals as goal

pub returns-then-not-is_asked : goal.returns-then-not-is_asked
returns-then-not-is_asked c =
    let a = sym (c.is_asked.ensures ∙ asked_same _ _ c.clear.auto.table) ∙ c.if-not-is_asked.true in
    rw c.at.ensures (asked_broken _ _ _ _ _ _ _ _ a c.clear.ensures)

pub returns-then-not-is_within : goal.returns-then-not-is_within
returns-then-not-is_within c =
    let a = sym (c.is_asked.ensures ∙ asked_same _ _ c.clear.auto.table) ∙ c.if-not-is_asked.false in
    let w = sym c.is_within.ensures ∙ c.if-not-is_within.true in
    rw c.at-then-not-is_within.ensures (asked_outside _ _ _ _ _ _ _ _ a w c.clear.ensures)

pub walk-reply-requires : goal.walk-reply-requires
walk-reply-requires c =
    let a = sym c.is_asked.ensures ∙ c.if-not-is_asked.false in
    let w = sym c.is_within.ensures ∙ c.if-not-is_within.false in
    record {
      recording_len_bound = bytes_allowed _ _ (first_true _ _ a);
      address_value = w;
      chain_value = c.clear.ensures ∙ zeros_as (sym c.clear.auto.table);
    }

pub returns-in-Err : goal.returns-in-Err
returns-in-Err c =
    let a = sym (c.is_asked.ensures ∙ asked_same _ _ c.clear.auto.table) ∙ c.if-not-is_asked.false in
    let w = sym c.is_within.ensures ∙ c.if-not-is_within.false in
    asked_refused _ _ _ _ _ _ _ _ a w _ _ _ _ c.walk-reply.ensures c.in-Err.is
    (c.clear-in-Err.ensures ∙ zeros_as (c.walk-reply.auto.chain ∙ c.clear.auto.table))

pub returns-in_default : goal.returns-in_default
returns-in_default c =
    let a = sym (c.is_asked.ensures ∙ asked_same _ _ c.clear.auto.table) ∙ c.if-not-is_asked.false in
    let w = sym c.is_within.ensures ∙ c.if-not-is_within.false in
    asked_owned _ _ _ _ _ _ _ _ a w _ _ c.clear.auto.table c.walk-reply.ensures
    c.in_default.not-Err
