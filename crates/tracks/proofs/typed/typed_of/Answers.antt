-- `typed_of` meets its contract: a set number by its type. Assumes nothing.
use mathlib.Core.Path.{ap}
use Rattle.fields_rules.specs.Values.{number}
use Rattle.media_rules.proofs.Said.{said_unset, said_is}
use Rattle.codes.specs.Tracktypes.{type_number}
use Rattle.codes.specs.declared.tracktype.Tracktype.{Tracktype}
use Rattle.tracks_rules.specs.Typed.{typed}
use Rattle.tracks.proofs.typed.typed_of.Goals as goal

pub returns-in_err-number : goal.returns-in_err-number
returns-in_err-number c = rw c.from_residual.ensures (said_unset typed c.in_err-number.was)

pub returns : goal.returns
unfolding typed
returns c =
    said_is typed c.in_ok-number.was (ap (λ (x : Tracktype). number (type_number x)) c.new.ensures)
