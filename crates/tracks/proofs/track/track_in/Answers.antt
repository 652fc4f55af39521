-- `track_in` meets its contract: field by field. Assumes nothing.
use mathlib.Core.Path.{refl}
use Rattle.locate_rules.proofs.Ways.{readable}
use Rattle.locate_rules.proofs.Lists.{then}
use Rattle.media_rules.proofs.Said.{said_of_law}
use Rattle.tracks_rules.specs.Typed.{typed}
use Rattle.tracks_rules.specs.Records.{entry_of}
use Rattle.tracks_rules.proofs.Decided.{track_is}
use Rattle.tracks.proofs.track.track_in.Goals as goal

pub invariant_of-fields : goal.invariant_of-fields
invariant_of-fields c = record { readable = readable c.requires }

pub settings_in-requires : goal.settings_in-requires
settings_in-requires c = c.requires

pub returns : goal.returns
unfolding entry_of
returns c =
    track_is c.requires c.settings_in.ensures
    (then c.number.ensures
    (then c.number-2.ensures
    (then (said_of_law typed _ _ _ _ c.number-3.result c.typed_of.ensures c.number-3.ensures)
    (then c.flag.ensures
    (then c.flag-2.ensures
    (then c.flag-3.ensures
    (then refl
    (then refl
    (then refl
    (then refl
    (then refl
    (then c.flag-4.ensures
    (then c.number-4.ensures
    (then c.content.ensures
    (then c.language.ensures
    (then c.content-2.ensures
    (then c.content-3.ensures
    (then c.content-4.ensures
    refl))))))))))))))))))
