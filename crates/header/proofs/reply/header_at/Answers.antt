-- `header_at` meets its promise: 14 for an argument out of bounds, else what `Cursor::header` reads.
-- Assumes nothing.
use mathlib.Core.Path.{ap, ◌∙◌, sym}
use Rattle.std.proofs.lemmas.Result.{err_from_is_err_and}
use Rattle.header.proofs.Replies.{read_reply, reply_bad, reply_read}
use Rattle.header.proofs.reply.header_at.Goals as goal

pub returns-then-not-is_place : goal.returns-then-not-is_place
returns-then-not-is_place c =
    let a = c.args in
    rw c.at.ensures (record { reply = reply_bad a.recording.now a.at (sym c.is_place.ensures ∙ c.if-not-is_place.true) })

pub returns-in_err-element : goal.returns-in_err-element
returns-in_err-element c =
    let a = c.args in
    let p = err_from_is_err_and c.from_residual.result c.from_residual.ensures.1 in
    rw (p.1, p.2)
    (record {
      reply =
          ap read_reply (sym c.in_err-element.was ∙ c.header.ensures)
          ∙ reply_read a.recording.now a.at (sym c.is_place.ensures ∙ c.if-not-is_place.false);
    })

pub returns : goal.returns
returns c =
    let a = c.args in
    record {
      reply =
          ap read_reply (sym c.in_ok-element.was ∙ c.header.ensures)
          ∙ reply_read a.recording.now a.at (sym c.is_place.ensures ∙ c.if-not-is_place.false);
    }
