-- `body_at` meets its promise: 14 for an argument out of bounds, else the body by its kind, which
-- `kind_of` gave. Assumes nothing.
use mathlib.Core.Path.{ap, sym, ◌∙◌}
use Rattle.std.proofs.Common.{rules}
use Rattle.std.proofs.lemmas.Result.{err_from_is_err_and}
use Rattle.bodies_rules.proofs.Replies.{read_reply, reply_bad, reply_read, mapped_err, mapped_ok}
use Rattle.bodies.proofs.reply.body_at.Goals as goal

pub returns-then-not-is_place : goal.returns-then-not-is_place
returns-then-not-is_place c =
    let a = c.args in
    rw c.at.ensures
    (record {
      reply =
          reply_bad a.recording.now a.id a.parent a.at a.size a.address
          (sym c.is_place.ensures ∙ c.if-not-is_place.true);
    })

pub returns-in_err-body : goal.returns-in_err-body
returns-in_err-body c =
    let a = c.args in
    let p = err_from_is_err_and c.from_residual.result c.from_residual.ensures.1 in
    let read = reply_read a.recording.now a.id a.parent a.at a.size a.address _ _ c.kind_of-kind.ensures
    c.read_body.ensures (sym c.is_place.ensures ∙ c.if-not-is_place.false) in
    let (cause, told, here) =
    mapped_err a.address c.read_body.result c.map_err.result _ (λ cause e k. search rules) c.map_err.ensures.cases
    _ c.in_err-body.was in
    rw (p.1, p.2, here) (record { reply = sym (ap (read_reply a.address) told) ∙ read })

pub returns : goal.returns
returns c =
    let a = c.args in
    let read = reply_read a.recording.now a.id a.parent a.at a.size a.address _ _ c.kind_of-kind.ensures
    c.read_body.ensures (sym c.is_place.ensures ∙ c.if-not-is_place.false) in
    let m = mapped_ok c.read_body.result c.map_err.result _ c.map_err.ensures.cases _ c.in_ok-body.was in
    record { reply = sym (ap (read_reply a.address) m) ∙ read }
