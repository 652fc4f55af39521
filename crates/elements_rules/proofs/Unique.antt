-- Any two replies and tables that the promise of `read` permits are equal (`OneReply`), and a refusal is one of
-- document 01's list (`RefusesListed`). Assumes nothing.
use Prim.Native.Nat.{ℕ}
use mathlib.Core.Path.{◌≡◌, refl, ap, sym, ◌∙◌}
use Rattle.refusals.specs.Reply.{Reply, accepted, refusal}
use Rattle.refusals.proofs.Listed.{listed}
use Rattle.elements_rules.specs.Promise.{read_of, reply_of, table_of, read_told}
use Rattle.elements_rules.specs.Theorems.{OneReply, RefusesListed}
use Rattle.std.proofs.Common.{Result, Ok, Err}
use Rattle.refusals.specs.declared.refusal.Refusal.{Refusal}

-- What was told tells the reply.
abbrev pub replied : Reply ℕ → Result ℕ Refusal
replied (accepted n) = Ok n
replied (refusal e) = Err e

pub replied_back : (r : Result ℕ Refusal) → replied (read_told r) ≡ r
replied_back (Ok n) = refl
replied_back (Err e) = refl

pub read_unique : OneReply
read_unique live s start size parent t u r r' t' u' l p q =
    let a = ap (λ (n : ℕ). reply_of (read_of live s start size parent n)) l in
    let b = ap (λ (n : ℕ). table_of start n (read_of live s start size parent n)) l in (
      sym (replied_back r) ∙ ap replied (p.reply ∙ a ∙ sym q.reply) ∙ replied_back r',
      p.table ∙ b ∙ sym q.table,
    )

pub read_refuses_listed : RefusesListed
read_refuses_listed live s start size parent t e t' p = listed e
