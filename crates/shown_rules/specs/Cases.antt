-- Worked texts and what of them is shown, as one table: the examples of RFC 8794, section 13, and the ends of a text.
use Rattle.std.specs.Prelude.{ℕ, ◌≡◌, List, [], ◌∷◌}
use Rattle.shown_rules.specs.Shown.{shown}

-- A text, and what is shown of it.
pub data Case : Type 0 where
  case : (text part : List ℕ) → Case

-- Every case of a table holds.
abbrev pub Hold : List Case → Type 0
Hold [] = Unit
Hold (case text part ∷ cases) = (shown text ≡ part) × Hold cases

abbrev pub cases : List Case
cases =
    case (0x65 ∷ 0x62 ∷ 0x6D ∷ 0x6C ∷ []) (0x65 ∷ 0x62 ∷ 0x6D ∷ 0x6C ∷ [])
    ∷ case (0x65 ∷ 0x62 ∷ 0x00 ∷ 0x6C ∷ []) (0x65 ∷ 0x62 ∷ [])
    ∷ case (0x65 ∷ 0x62 ∷ 0x00 ∷ 0x00 ∷ []) (0x65 ∷ 0x62 ∷ [])
    ∷ case (0x65 ∷ 0x62 ∷ []) (0x65 ∷ 0x62 ∷ [])
    -- Nothing is shown of a text that begins with a zero octet, nor of one without octets.
    ∷ case (0x00 ∷ 0x65 ∷ []) []
    ∷ case [] []
    ∷ []
