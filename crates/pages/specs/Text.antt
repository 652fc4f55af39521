-- Text as bytes: ASCII, and numbers in decimal and hexadecimal digits.
use Rattle.std.specs.Prelude.{ℕ, zero, suc, ◌+◌, ◌/◌, ◌%◌, cond, List, [], ◌∷◌, ◌++◌, ltb}
use Prim.Native.Char.{code}
use Prim.Native.String.{String, [] as none, ◌∷◌ as ◌then◌}

-- The characters' codes.
abbrev pub ascii : String → List ℕ
ascii none = []
ascii (c then s) = code c ∷ ascii s

-- A digit below 16 as a letter: `0` to `9`, then `A` to `F`.
unfoldable pub glyph : ℕ → ℕ
glyph digit = cond (ltb digit 10) (48 + digit) (55 + digit)

-- A number in a base, with no zero in front, of at most so many digits: below the base it is its digit; else the
-- numeral of the quotient comes first, and the remainder is the last digit.
unfoldable pub numeral : (base most n : ℕ) → List ℕ
numeral base zero n = []
numeral base (suc most) n =
    cond (ltb n base) (glyph n ∷ []) (numeral base most (n / base) ++ glyph (n % base) ∷ [])

-- Twenty digits hold every 64-bit number in either base.
abbrev pub decimal : ℕ → List ℕ
decimal n = numeral 10 20 n

abbrev pub hexadecimal : ℕ → List ℕ
hexadecimal n = numeral 16 20 n
