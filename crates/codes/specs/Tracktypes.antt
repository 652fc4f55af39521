-- Track types by their numbers (document 01, Records).
use Rattle.std.specs.Prelude.{ℕ, List, [], ◌∷◌, cond, eqb}
use Rattle.codes.specs.declared.tracktype.Tracktype.{Tracktype}
use Rattle.codes.specs.declared.tracktype.Tracktype.TheVariants.{Video, Audio, Complex, Logo}
use Rattle.codes.specs.declared.tracktype.Tracktype.TheVariants.{Subtitle, Buttons, Control, Unknown}

-- The number of each type; Unknown has 0, which no type has.
abbrev pub type_number : Tracktype → ℕ
type_number Video = 1
type_number Audio = 2
type_number Complex = 3
type_number Logo = 16
type_number Subtitle = 17
type_number Buttons = 18
type_number Control = 32
type_number Unknown = 0

abbrev pub types : List Tracktype
types = Video ∷ Audio ∷ Complex ∷ Logo ∷ Subtitle ∷ Buttons ∷ Control ∷ []

-- The type with a number; any other number is Unknown.
unfoldable pub type_in : List Tracktype → ℕ → Tracktype
type_in [] n = Unknown
type_in (t ∷ ts) n = cond (eqb n (type_number t)) t (type_in ts n)

abbrev pub tracktype_of : ℕ → Tracktype
tracktype_of n = type_in types n
