-- `signed_in` meets its contract: a sound date has 8 bytes. Assumes nothing.
use mathlib.Core.Path.{◌∙◌}
use native.Mathlib.Omega.{arith}
use mir.Syntax.{w64}
use mir.Facts.{to_z-of_z}
use Rattle.fields_rules.proofs.Sizes.{date_size}
use Rattle.fields_rules.proofs.Taken.{of_date}
use Rattle.fields.proofs.field.signed_in.Goals as goal

pub big_endian-pattern-requires : goal.big_endian-pattern-requires
big_endian-pattern-requires c =
    (omega (arith, date_size _ _ c.requires), omega (arith, c.requires.sound.inside))

pub signed-requires : goal.signed-requires
signed-requires c =
    (omega (arith, date_size _ _ c.requires), c.big_endian-pattern.ensures.1)

pub returns : goal.returns
returns c =
    to_z-of_z {w = w64} (record { sfits = c.signed.type_inv })
    ∙ of_date c.args.recording.now c.args.row _ c.big_endian-pattern.ensures.0 _ c.signed.ensures
