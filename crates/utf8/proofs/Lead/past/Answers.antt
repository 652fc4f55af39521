-- `Lead::past` meets its contract: the second octet is in its range, and the others are tails. Assumes nothing.
use mathlib.Core.Path.{sym, ap, ◌∙◌}
use mathlib.Core.List.{[]}
use mathlib.Core.Bool.{◌&&◌}
use native.Mathlib.Omega.{arith}
use lib.ListN.{length}
use Rattle.std.proofs.lemmas.List.Edits.{length-between}
use Rattle.utf8.specs.Utf8.{goes_on}
use Rattle.utf8.proofs.Steps.{cut_off, second_below, second_above, tails_past}
use Rattle.utf8.proofs.Lead.past.Goals.{then-second-self-via-then-second-self}
use Rattle.utf8.proofs.Lead.past.Goals.{then-second-self-via-else-second-self+then-self-second}
use Rattle.utf8.proofs.Lead.past.Goals as goal

pub returns-in_default : goal.returns-in_default
returns-in_default c = cut_off c.args.self c.args.bytes.now (omega arith)

pub returns-then-second-self : goal.returns-then-second-self
returns-then-second-self c = elim c.then-second-self.branch [
  | then-second-self-via-then-second-self w ↦
      second_below c.args.bytes.now c.in-len1-up.len_at_least c.args.self w.if-second-self.true
  | then-second-self-via-else-second-self+then-self-second w ↦
      second_above c.args.bytes.now c.in-len1-up.len_at_least c.args.self w.if-second-self.false w.if-self-second.true
]

pub returns-then-more-self : goal.returns-then-more-self
returns-then-more-self c =
    let s = c.args.bytes.now in
    cut_off c.args.self s (omega (arith, length-between s 1 (length s) (omega arith), c.if-more-self.true))

pub returns-then-are_tails : goal.returns-then-are_tails
returns-then-are_tails c =
    let s = c.args.bytes.now in
    let p = c.split_at.ensures in
    let t = c.split_at.result.0.now in
    let u = c.split_at.result.1.now in
    let second = tails_past s c.in-len1-up.len_at_least c.args.self t u c.if-second-self.false c.if-self-second.false in (
      second p.by_index.0 p.front_len
          ∙ ap (λ x. x && goes_on [] u) (sym c.are_tails.ensures ∙ c.if-are_tails.true),
      omega (arith, length-between s 1 (length s) (omega arith), p.back_len),
    )

pub returns-else-are_tails : goal.returns-else-are_tails
returns-else-are_tails c =
    let s = c.args.bytes.now in
    let p = c.split_at.ensures in
    let t = c.split_at.result.0.now in
    let u = c.split_at.result.1.now in
    let second = tails_past s c.in-len1-up.len_at_least c.args.self t u c.if-second-self.false c.if-self-second.false in
    second p.by_index.0 p.front_len ∙ ap (λ x. x && goes_on [] u) (sym c.are_tails.ensures ∙ c.if-are_tails.false)
