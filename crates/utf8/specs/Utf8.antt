-- UTF-8 by the grammar of RFC 3629, section 4: its lines as data, and whether octets follow them.
use Rattle.std.specs.Prelude.{ℕ, List, [], ◌∷◌, ◌++◌, Bool, true, false, ◌&&◌, ◌||◌, cond, leb}

-- A range of values that one octet may have, as %x80-BF.
pub data Range : Type 0 where
  range : ℕ → ℕ → Range

abbrev pub within : Range → ℕ → Bool
within (range low high) b = leb low b && leb b high

-- One value alone, as %xE0.
abbrev pub only : ℕ → Range
only b = range b b

-- An alternative of the grammar: the ranges of its octets, in order.
abbrev pub Alternative : Type 0
Alternative = List Range

-- ---- the lines of the grammar, under its names

abbrev pub utf8_tail : Range
utf8_tail = range 0x80 0xBF

abbrev pub utf8_1 : List Alternative
utf8_1 = (range 0x00 0x7F ∷ []) ∷ []

abbrev pub utf8_2 : List Alternative
utf8_2 = (range 0xC2 0xDF ∷ utf8_tail ∷ []) ∷ []

abbrev pub utf8_3 : List Alternative
utf8_3 =
    (only 0xE0 ∷ range 0xA0 0xBF ∷ utf8_tail ∷ [])
    ∷ (range 0xE1 0xEC ∷ utf8_tail ∷ utf8_tail ∷ [])
    ∷ (only 0xED ∷ range 0x80 0x9F ∷ utf8_tail ∷ [])
    ∷ (range 0xEE 0xEF ∷ utf8_tail ∷ utf8_tail ∷ [])
    ∷ []

abbrev pub utf8_4 : List Alternative
utf8_4 =
    (only 0xF0 ∷ range 0x90 0xBF ∷ utf8_tail ∷ utf8_tail ∷ [])
    ∷ (range 0xF1 0xF3 ∷ utf8_tail ∷ utf8_tail ∷ utf8_tail ∷ [])
    ∷ (only 0xF4 ∷ range 0x80 0x8F ∷ utf8_tail ∷ utf8_tail ∷ [])
    ∷ []

unfoldable pub utf8_char : List Alternative
utf8_char = utf8_1 ++ utf8_2 ++ utf8_3 ++ utf8_4

-- ---- whether octets follow the grammar

-- Behind a first octet: of each alternative that may begin with it, the ranges that are left.
unfoldable pub behind : List Alternative → ℕ → List Alternative
behind [] b = []
behind ([] ∷ others) b = behind others b
behind ((r ∷ rs) ∷ others) b = cond (within r b) (rs ∷ behind others b) (behind others b)

-- Whether the test holds of an element.
unfoldable pub any_of : {A : Type 0} → (A → Bool) → List A → Bool
any_of f [] = false
any_of f (x ∷ xs) = f x || any_of f xs

-- Whether the octets match the ranges one by one, and are then characters one after another.
unfoldable pub goes_on : List Range → List ℕ → Bool
goes_on [] [] = true
goes_on [] (b ∷ s) = any_of (λ rs. goes_on rs s) (behind utf8_char b)
goes_on (r ∷ rs) [] = false
goes_on (r ∷ rs) (b ∷ s) = within r b && goes_on rs s

-- UTF8-octets: characters one after another, from the first octet to the last.
unfoldable pub utf8 : List ℕ → Bool
utf8 s = goes_on [] s
