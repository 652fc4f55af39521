-- Stereo modes by their numbers (document 02, C-11; the crate's `Video::build`).
use Rattle.std.specs.Prelude.{ℕ, zero, suc, List, [], ◌∷◌}
use Rattle.codes.specs.declared.stereo.EyeOrder.{EyeOrder}
use Rattle.codes.specs.declared.stereo.EyeOrder.TheVariants.{LeftFirst, RightFirst}
use Rattle.codes.specs.declared.stereo.StereoColors.TheVariants.{CyanRed, GreenMagenta}
use Rattle.codes.specs.declared.stereo.StereoMode.{StereoMode}
use Rattle.codes.specs.declared.stereo.StereoMode.TheVariants.{Mono, SideBySide, TopBottom, Checkboard}
use Rattle.codes.specs.declared.stereo.StereoMode.TheVariants.{RowInterleaved, ColumnInterleaved}
use Rattle.codes.specs.declared.stereo.StereoMode.TheVariants.{Anaglyph, Interlaced}

-- The table of the modes, in the order of their numbers, 0 to 14.
abbrev pub mode_table : List StereoMode
mode_table =
    Mono
    ∷ SideBySide LeftFirst
    ∷ TopBottom RightFirst
    ∷ TopBottom LeftFirst
    ∷ Checkboard RightFirst
    ∷ Checkboard LeftFirst
    ∷ RowInterleaved RightFirst
    ∷ RowInterleaved LeftFirst
    ∷ ColumnInterleaved RightFirst
    ∷ ColumnInterleaved LeftFirst
    ∷ Anaglyph CyanRed
    ∷ SideBySide RightFirst
    ∷ Anaglyph GreenMagenta
    ∷ Interlaced LeftFirst
    ∷ Interlaced RightFirst
    ∷ []

-- The mode of a place in it.
abbrev pub mode_in : List StereoMode → ℕ → StereoMode
mode_in [] n = Mono
mode_in (m ∷ ms) zero = m
mode_in (m ∷ ms) (suc n) = mode_in ms n

abbrev pub modes : ℕ
modes = 15

abbrev pub by_order : EyeOrder → (left right : ℕ) → ℕ
by_order LeftFirst left right = left
by_order RightFirst left right = right

-- The number of a mode, which is its place in the table (`ModesNumbered`).
abbrev pub stereo_number : StereoMode → ℕ
stereo_number Mono = 0
stereo_number (SideBySide order) = by_order order 1 11
stereo_number (TopBottom order) = by_order order 3 2
stereo_number (Checkboard order) = by_order order 5 4
stereo_number (RowInterleaved order) = by_order order 7 6
stereo_number (ColumnInterleaved order) = by_order order 9 8
stereo_number (Anaglyph CyanRed) = 10
stereo_number (Anaglyph GreenMagenta) = 12
stereo_number (Interlaced order) = by_order order 13 14
