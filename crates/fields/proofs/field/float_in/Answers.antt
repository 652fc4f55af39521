-- `float_in` meets its contract: a sound float has 4 or 8 bytes. Assumes nothing.
use mathlib.Core.Logic.{⊎_elim}
use native.Mathlib.Omega.{arith}
use Rattle.fields_rules.proofs.Sizes.{float_size}
use Rattle.fields_rules.proofs.Taken.{narrow, of_4, of_8}
use Rattle.fields.proofs.field.float_in.Goals as goal

pub big_endian-pattern-requires : goal.big_endian-pattern-requires
big_endian-pattern-requires c = (
  ⊎_elim (λ e. omega (arith, e)) (λ e. omega (arith, e)) (float_size _ _ c.requires),
  omega (arith, c.requires.sound.inside),
)

pub float_of_4-requires : goal.float_of_4-requires
float_of_4-requires c =
    narrow c.args.recording.now c.args.row _ c.big_endian-pattern.ensures.0 c.if-row-eq4.true
    c.big_endian-pattern.ensures.1

pub returns-then-row-eq4 : goal.returns-then-row-eq4
returns-then-row-eq4 c =
    of_4 c.args.recording.now c.args.row _ c.big_endian-pattern.ensures.0 _ c.if-row-eq4.true
    c.float_of_4.ensures

pub returns : goal.returns
returns c =
    of_8 c.args.recording.now c.args.row _ c.big_endian-pattern.ensures.0 _ c.if-row-eq4.false
    c.float_of_8.ensures
