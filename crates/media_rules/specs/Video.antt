-- What the numbers of a video track's settings say (document 02, C-11; the crate's `Video::build`).
use Rattle.std.specs.Prelude.{ℕ, true, false, cond, ltb, eqb}
use Rattle.codes.specs.Stereo.{modes}
use Rattle.fields_rules.specs.Values.{FieldValue, unset, number, flag}

-- Interlaced: 1 is yes and 2 is no; any other number leaves it unset.
abbrev pub interlaced : ℕ → FieldValue
interlaced n = cond (eqb n 1) (flag true) (cond (eqb n 2) (flag false) unset)

-- A number that is no stereo mode's leaves it unset.
unfoldable pub stereo : ℕ → FieldValue
stereo n = cond (ltb n modes) (number n) unset
