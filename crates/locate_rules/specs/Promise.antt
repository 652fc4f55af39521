-- What a record question promises of its reply and of the table, for any fields and any question.
use Rattle.std.specs.Prelude.{ℕ, ◌≡◌, List, length}
use Rattle.elements_rules.specs.declared.row.Row.{Row}
use Rattle.fields_rules.specs.Children.{subtree}
use Rattle.fields_rules.specs.Values.{FieldValue}
use Rattle.locate_rules.specs.Asked.{Asked, found, refusing, table_after}
use Rattle.locate_rules.specs.Told.{Answer, fields, refusal}

-- The answer: the fields of the master that was asked for, and how many rows were read.
abbrev pub answer_of : (List Row → ℕ → List FieldValue) → Asked → Answer
answer_of values (found rs parent) = fields (values rs parent) (length rs)
answer_of values (refusing e) = refusal e

-- The reply, told in document 01's terms, and the table at exit, for a table of so many numbers.
pub record RecordPromise
    (values : List Row → ℕ → List FieldValue) (a : Asked) (numbers : ℕ) (told : Answer) (t' : List ℕ) : Type 0 where
  pub reply : told ≡ answer_of values a
  pub table : t' ≡ table_after numbers a

-- A record that is built of the rows below its master.
abbrev pub of_below : (ℕ → List Row → List FieldValue) → List Row → ℕ → List FieldValue
of_below values rs parent = values parent (subtree rs parent)
