-- What it means that a text was written into a page.
use Rattle.std.specs.Prelude.{ℕ, ◌+◌, ◌≡◌, List, ◌++◌, length, take, drop}
use Rattle.pages.specs.declared.page.Page.{Page}

-- The page with a text behind its first `held` bytes; what stands further on stays.
abbrev pub written : List ℕ → ℕ → List ℕ → List ℕ
written page held text = take held page ++ text ++ drop (held + length text) page

-- A call that writes a text into a page: it answers where the text ends, and the page stays as long as it is.
pub record Wrote (page : List ℕ) (held : ℕ) (text : List ℕ) (r : ℕ) (page' : List ℕ) : Type 0 where
  pub ends : r ≡ held + length text
  pub says : page' ≡ written page held text
  pub long : length page' ≡ length page

-- How many bytes a page has.
abbrev pub room : Page → ℕ
room p = length p.bytes.now

-- A text was written behind what the page held, and the page is the lent one still.
abbrev pub Grew : Page → List ℕ → Page → Type 0
Grew p text p' = Wrote p.bytes.now p.held text p'.held p'.bytes.now × (p'.bytes.ghost_name ≡ p.bytes.ghost_name)
