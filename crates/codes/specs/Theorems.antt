-- What is proved of the definitions beside the contracts: the statements of the theorems.
use Rattle.std.specs.Prelude.{ℕ, ◌<◌, ◌≡◌, length}
use Rattle.codes.specs.Stereo.{mode_table, mode_in, modes, stereo_number}
use Rattle.codes.specs.Promise.{TracktypePromise, StereoModePromise}
use Rattle.codes.specs.declared.stereo.StereoMode.{StereoMode}
use Rattle.codes.specs.declared.tracktype.Tracktype.{Tracktype}

-- Any two replies that a promise permits to one question are equal (document 01, Strength of the promises).
abbrev pub OneTracktype : Type 0
OneTracktype = (n : ℕ) (r r' : Tracktype) → TracktypePromise n r → TracktypePromise n r' → r ≡ r'

abbrev pub OneStereoMode : Type 0
OneStereoMode = (m : StereoMode) (r r' : ℕ) → StereoModePromise m r → StereoModePromise m r' → r ≡ r'

-- A mode's number is its place in the table, which has as many; so each has a number of its own, below 15. It shuts out
-- a number that is another mode's.
pub record ModesNumbered : Type 0 where
  pub placed : (m : StereoMode) → mode_in mode_table (stereo_number m) ≡ m
  pub many : length mode_table ≡ modes
  pub own : (m m' : StereoMode) → stereo_number m ≡ stereo_number m' → m ≡ m'
  pub below : (m : StereoMode) → stereo_number m < modes
