-- `open`: the tables are cleared, the turns are taken; a refusal clears all five again. Assumes nothing.
use mathlib.Core.Path.{sym}
use Rattle.std.proofs.Common.{rules}
use Rattle.open_rules.proofs.Lending.{each_same, same_again, open_refused, open_read, open_ends}
use Rattle.open.proofs.opened.open.Goals as goal

pub returns-then-is_err : goal.returns-then-is_err
returns-then-is_err c =
    let m = same_again _ _ _ c.clear_all-then-is_err.ensures.same
    (same_again _ _ _ c.run-reply.ensures.same c.clear_all.ensures.same) in
    let i = sym m.info in
    let j = sym m.tracks in
    let k = sym m.attachments in
    let l = sym m.chapters in
    let n = sym m.tags in
    open_ends _ _ _ _ _
    (open_refused _ _ _ _ _ c.clear_all.ensures.cleared c.clear_all.ensures.same.sizes
    _ c.run-reply.ensures.ran c.if-is_err.ensures.value _ c.run-reply.ensures.same.sizes
    c.clear_all-then-is_err.ensures.cleared)
    _ (each_same (search rules) (search rules) (search rules) (search rules) (search rules))

pub returns-else-is_err : goal.returns-else-is_err
returns-else-is_err c =
    let m = same_again _ _ _ c.run-reply.ensures.same c.clear_all.ensures.same in
    let i = sym m.info in
    let j = sym m.tracks in
    let k = sym m.attachments in
    let l = sym m.chapters in
    let n = sym m.tags in
    open_ends _ _ _ _ _
    (open_read _ _ _ _ _ c.clear_all.ensures.cleared c.clear_all.ensures.same.sizes
    _ c.run-reply.ensures.ran c.if-is_err.ensures.value)
    _ (each_same (search rules) (search rules) (search rules) (search rules) (search rules))
