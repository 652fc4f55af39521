-- What is promised of a track's type and of a stereo mode's number.
use Rattle.std.specs.Prelude.{ℕ, ◌≡◌}
use Rattle.codes.specs.Stereo.{stereo_number}
use Rattle.codes.specs.Tracktypes.{tracktype_of}
use Rattle.codes.specs.declared.stereo.StereoMode.{StereoMode}
use Rattle.codes.specs.declared.tracktype.Tracktype.{Tracktype}

abbrev pub TracktypePromise : ℕ → Tracktype → Type 0
TracktypePromise number r = r ≡ tracktype_of number

abbrev pub StereoModePromise : StereoMode → ℕ → Type 0
StereoModePromise mode r = r ≡ stereo_number mode
