-- The stage label (document 01, Records; document 02, C-13).
use Rattle.std.specs.Prelude.{ℕ, ◌+◌, List, [], ◌∷◌, cond, length, take, drop, leb}
use Rattle.shown_rules.specs.Shown.{shown}
use Rattle.std.specs.Prelude.{Option, Some, None}
use Rattle.bodies_rules.specs.declared.body.Range.{Range}

-- An empty text is no label: the caller's own is given.
abbrev pub or_own : (text own : List ℕ) → List ℕ
or_own [] own = own
or_own (b ∷ text) own = b ∷ text

-- The octets of a label: what is shown of the string, if its range is set and in the recording, else the caller's own.
unfoldable pub label_of : List ℕ → Option Range → List ℕ → List ℕ
label_of s None own = own
label_of s (Some r) own =
    cond (leb (r.at + r.length) (length s)) (or_own (shown (take r.length (drop r.at s))) own) own
