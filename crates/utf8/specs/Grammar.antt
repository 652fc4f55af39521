-- The grammar of RFC 3629, section 4, as what it derives; `utf8` decides the same.
use Rattle.std.specs.Prelude.{ℕ, ◌≤◌}
use mathlib.Core.List.{List, [], ◌∷◌, ◌++◌, Memᴰ}
use Rattle.utf8.specs.Utf8.{Range, range, Alternative, utf8_char}

-- Octets that match ranges one by one, none left on either side.
pub data Matches : List Range → List ℕ → Type 0 where
  end : Matches [] []
  next : {low high b : ℕ} {rs : List Range} {c : List ℕ}
      → low ≤ b → b ≤ high → Matches rs c → Matches (range low high ∷ rs) (b ∷ c)

-- UTF8-char: octets that match one of the alternatives.
pub record Utf8Character (c : List ℕ) : Type 0 where
  pub alternative : Alternative
  pub listed : Memᴰ alternative utf8_char
  pub matches : Matches alternative c

-- UTF8-octets = *( UTF8-char ): characters one after another.
pub data Utf8Octets : List ℕ → Type 0 where
  none : Utf8Octets []
  more : {c s : List ℕ} → Utf8Character c → Utf8Octets s → Utf8Octets (c ++ s)
