-- Any two replies and tables that the promise of `find_part` permits are equal (`OnePart`), and its refusals are listed
-- (`RefusesListed`). Assumes nothing.
use Prim.Native.Nat.{ℕ}
use mathlib.Core.Path.{◌≡◌, refl, ap, sym, ◌∙◌}
use Rattle.refusals.specs.Reply.{Reply, accepted, refusal}
use Rattle.refusals.proofs.Listed.{listed}
use Rattle.search_rules.specs.Part.{search_of, PartTold, found_part, absent_part, reply_of, table_of, part_told}
use Rattle.search_rules.specs.Theorems.{OnePart, RefusesListed}
use Rattle.std.proofs.Common.{Result, Option, Ok, Err, Some, None}
use Rattle.search_rules.specs.declared.part.Part.{Part}
use Rattle.refusals.specs.declared.refusal.Refusal.{Refusal}

-- What was told tells the reply.
abbrev pub replied : Reply PartTold → Result (Option Part × ℕ) Refusal
replied (accepted (found_part at size rows heads)) = Ok (Some (record { at = at; size = size; rows = rows }), heads)
replied (accepted (absent_part heads)) = Ok (None, heads)
replied (refusal e) = Err e

pub replied_back : (r : Result (Option Part × ℕ) Refusal) → replied (part_told r) ≡ r
replied_back (Ok (Some p, heads)) = refl
replied_back (Ok (None, heads)) = refl
replied_back (Err e) = refl

pub part_unique : OnePart
part_unique live s part t u r r' t' u' l p q =
    let a = ap (λ (n : ℕ). reply_of (search_of live s part n)) l in
    let b = ap (λ (n : ℕ). table_of n (search_of live s part n)) l in (
      sym (replied_back r) ∙ ap replied (p.reply ∙ a ∙ sym q.reply) ∙ replied_back r',
      p.table ∙ b ∙ sym q.table,
    )

pub part_refuses_listed : RefusesListed
part_refuses_listed live s part t e t' p = listed e
