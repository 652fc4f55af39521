-- Any two replies that a promise permits to one question are equal. Assumes nothing.
use Prim.Native.Nat.{◌<◌}
use mathlib.Core.Path.{◌≡◌, refl, ap, sym, ◌∙◌}
use native.Mathlib.Omega.{arith}
use Rattle.codes.specs.Stereo.{mode_table, mode_in, modes, stereo_number}
use Rattle.codes.specs.Tracktypes.{type_number, type_in, tracktype_of}
use Rattle.codes.specs.Theorems.{OneTracktype, OneStereoMode, ModesNumbered}
use Rattle.codes.specs.declared.stereo.EyeOrder.TheVariants.{LeftFirst, RightFirst}
use Rattle.codes.specs.declared.stereo.StereoColors.TheVariants.{CyanRed, GreenMagenta}
use Rattle.codes.specs.declared.stereo.StereoMode.{StereoMode}
use Rattle.codes.specs.declared.stereo.StereoMode.TheVariants.{Mono, SideBySide, TopBottom, Checkboard}
use Rattle.codes.specs.declared.stereo.StereoMode.TheVariants.{RowInterleaved, ColumnInterleaved}
use Rattle.codes.specs.declared.stereo.StereoMode.TheVariants.{Anaglyph, Interlaced}
use Rattle.codes.specs.declared.tracktype.Tracktype.{Tracktype}
use Rattle.codes.specs.declared.tracktype.Tracktype.TheVariants.{Video as VideoType, Audio as AudioType}
use Rattle.codes.specs.declared.tracktype.Tracktype.TheVariants.{Complex, Logo, Subtitle, Buttons, Control}
use Rattle.codes.specs.declared.tracktype.Tracktype.TheVariants.{Unknown}

-- ---- a stereo mode has a number of its own

numbered : (m : StereoMode) → (mode_in mode_table (stereo_number m) ≡ m) × (stereo_number m < modes)
numbered Mono = (refl, omega arith)
numbered (SideBySide LeftFirst) = (refl, omega arith)
numbered (SideBySide RightFirst) = (refl, omega arith)
numbered (TopBottom LeftFirst) = (refl, omega arith)
numbered (TopBottom RightFirst) = (refl, omega arith)
numbered (Checkboard LeftFirst) = (refl, omega arith)
numbered (Checkboard RightFirst) = (refl, omega arith)
numbered (RowInterleaved LeftFirst) = (refl, omega arith)
numbered (RowInterleaved RightFirst) = (refl, omega arith)
numbered (ColumnInterleaved LeftFirst) = (refl, omega arith)
numbered (ColumnInterleaved RightFirst) = (refl, omega arith)
numbered (Anaglyph CyanRed) = (refl, omega arith)
numbered (Anaglyph GreenMagenta) = (refl, omega arith)
numbered (Interlaced LeftFirst) = (refl, omega arith)
numbered (Interlaced RightFirst) = (refl, omega arith)

pub mode_once : (m n : StereoMode) → stereo_number m ≡ stereo_number n → m ≡ n
mode_once m n e = sym (numbered m).0 ∙ ap (mode_in mode_table) e ∙ (numbered n).0

-- ---- a track type has a number of its own

type_back : (t : Tracktype) → tracktype_of (type_number t) ≡ t
unfolding type_in
type_back VideoType = refl
type_back AudioType = refl
type_back Complex = refl
type_back Logo = refl
type_back Subtitle = refl
type_back Buttons = refl
type_back Control = refl
type_back Unknown = refl

pub type_once : (t u : Tracktype) → type_number t ≡ type_number u → t ≡ u
type_once t u e = sym (type_back t) ∙ ap tracktype_of e ∙ type_back u

-- ---- the theorems

pub tracktype_unique : OneTracktype
tracktype_unique n r r' p q = p ∙ sym q

pub stereo_mode_unique : OneStereoMode
stereo_mode_unique m r r' p q = p ∙ sym q

pub modes_numbered : ModesNumbered
modes_numbered = record { placed = λ m. (numbered m).0; many = refl; own = mode_once; below = λ m. (numbered m).1 }
