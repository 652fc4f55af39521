-- `skim_body`: a leaf's body is read, or a master's elements without rows. Assumes nothing.
use mathlib.Core.Path.{refl, sym, ◌∙◌}
use native.Mathlib.Omega.{arith}
use Rattle.header.proofs.Inside.{header_there}
use Rattle.booleans.proofs.Handed.{handed}
use Rattle.booleans.proofs.Mapped.{mapped_ok, mapped_err}
use Rattle.refusals.specs.Refusals.{because}
use Rattle.std.proofs.Common.{◌≡◌, rules}
use Rattle.elements_rules.proofs.Parts.{step_read}
use Rattle.kinds.proofs.Numbers.{promised_kind}
use Rattle.seekhead_rules.proofs.Skims.{skim_leaf, skim_leaf_refused, skim_refused, skim_master}
use Rattle.seekhead.proofs.skim.skim_body.Goals as goal

pub master_body-requires : goal.master_body-requires
master_body-requires c =
    let p = c.requires.taken in
    record {
      small = p.small;
      inside = (header_there _ _ _ (step_read _ _ _ _ p.there).1).inside;
      few = omega arith;
      room = λ kept. omega arith;
    }

pub returns-in_err-master_body : goal.returns-in_err-master_body
returns-in_err-master_body c =
    let p = c.requires in
    let kind = promised_kind _ _ _ c.kind_of-kind.ensures in
    rw (handed _ c.from_residual.ensures.1)
    (skim_refused _ _ _ _ _ p.taken.there p.shallow (sym (c.number.ensures ∙ rw kind refl)
    ∙ c.if-number-eq-MASTER.true) _ (sym c.in_err-master_body.was ∙ c.master_body.ensures.reply))

pub returns-then-number-eq-MASTER : goal.returns-then-number-eq-MASTER
returns-then-number-eq-MASTER c =
    let p = c.requires in
    let kind = promised_kind _ _ _ c.kind_of-kind.ensures in
    skim_master _ _ _ _ _ p.taken.there p.shallow (sym (c.number.ensures ∙ rw kind refl)
    ∙ c.if-number-eq-MASTER.true) _ _ (sym c.in_ok-master_body.was ∙ c.master_body.ensures.reply)

pub returns-in_err-body : goal.returns-in_err-body
returns-in_err-body c =
    let p = c.requires in
    let kind = promised_kind _ _ _ c.kind_of-kind.ensures in
    let (cause, is, at) = mapped_err _ c.read_body.result c.map_err.result c.map_err.ensures.cases _ c.in_err-body.was in
    let told : c.in_err-body.field-0.0 ≡ because cause c.args.element.place.at = search rules in
    rw (handed _ c.from_residual-in_err-body.ensures.1, told)
    (skim_leaf_refused _ _ _ _ _ p.taken.there p.shallow cause (sym is ∙ c.read_body.ensures ∙ rw kind refl))

pub returns : goal.returns
returns c =
    let p = c.requires in
    let kind = promised_kind _ _ _ c.kind_of-kind.ensures in
    let is = mapped_ok _ c.read_body.result c.map_err.result c.map_err.ensures.cases _ c.in_ok-body.was in
    skim_leaf _ _ _ _ _ p.taken.there p.shallow _ _
    (λ q. c.if-number-eq-MASTER.false (c.number.ensures ∙ rw kind q))
    (sym is ∙ c.read_body.ensures ∙ rw kind refl)
