-- The seek heads in live mode and in old mode (document 02, C-18): the statement of the theorem.
use Rattle.std.specs.Prelude.{ℕ, ◌≡◌, List, true, false}
use Rattle.header.specs.declared.cursor.Headed.{Headed}
use Rattle.elements_rules.specs.Live.{AllKnown}
use Rattle.seekchain_rules.specs.Lookup.{by_heads}
use Rattle.seekchain_rules.specs.Faults.{HeadsCome}

-- If no header that is read from the first head on in old mode has an unknown size, live mode leads to the same place.
abbrev pub HeadsEqual : Type 0
HeadsEqual =
    (s : List ℕ) (wanted start : ℕ) (first : Headed) → AllKnown s (HeadsCome false s wanted start first)
    → by_heads true s wanted start first ≡ by_heads false s wanted start first
