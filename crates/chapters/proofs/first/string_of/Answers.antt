-- `string_of` meets its contract: the string below the display's row. Assumes nothing.
use Prim.Native.Nat.{ℕ}
use mathlib.Core.List.{List}
use Rattle.kinds.specs.declared.kind.Kind.TheVariants.{Utf8}
use Rattle.elements_rules.specs.declared.row.Row.{Row}
use Rattle.fields_rules.specs.Fields.{content_of}
use Rattle.locate_rules.proofs.Inner.{inner_readable, inner_fields}
use Rattle.chapters.proofs.first.string_of.Goals as goal

pub invariant_of-fields : goal.invariant_of-fields
invariant_of-fields c = record { readable = inner_readable c.requires.0 c.rows_below.ensures }

pub returns : goal.returns
returns c =
    let s = c.args.recording.now in
    inner_fields (λ (y : ℕ) (x : List Row). content_of s y x 0x85 Utf8) _ _ _ c.rows_below.ensures c.content.ensures
