-- The words for the kinds as one text, which `rowtext` cuts them out of; no part of what is listed.
use Rattle.std.specs.Prelude.{ℕ, ◌+◌, ◌-◌, ◌≤◌, ◌≡◌, List, ◌++◌, length, take, drop}
use Rattle.pages.specs.Text.{ascii}
use Rattle.rowtext.specs.Lines.{kind_word}
use Rattle.rowtext.specs.declared.row.Cut.{Cut}

-- Each behind a space.
abbrev pub kind_words : List ℕ
kind_words = ascii " master int uint string utf8 binary float date"

-- What is cut is the word of that kind, and the space before it.
pub record Cuts (kind : ℕ) (r : Cut) : Type 0 where
  pub low : r.from ≤ r.end
  pub high : r.end ≤ 46
  pub few : r.end ≤ r.from + 7
  pub short : length (ascii " " ++ kind_word kind) ≤ 7
  pub says : take (r.end - r.from) (drop r.from kind_words) ≡ ascii " " ++ kind_word kind
