-- Worked records: what a question is answered, beside the answer that is due. The crates of the parts have the tables.
use Rattle.std.specs.Prelude.{ℕ, ◌*◌, ◌≡◌, List, [], ◌∷◌}
use Rattle.refusals.specs.Causes.{cause_number, cause_id}
use Rattle.elements_rules.specs.Rows.{width}
use Rattle.fields_rules.specs.Values.{FieldValue}
use Rattle.locate_rules.specs.Told.{Answer, fields, refusal}

-- The numbers of the lent table: sixteen rows.
abbrev pub numbers : ℕ
numbers = 16 * width

-- An answer in document 01's numbers: the fields and how many rows there are, or a refusal's number with the id that 8
-- carries.
pub data Due : Type 0 where
  told : List FieldValue → ℕ → Due
  refused : (number id address : ℕ) → Due

abbrev pub due_of : Answer → Due
due_of (fields vs rows) = told vs rows
due_of (refusal e) = refused (cause_number e.cause) (cause_id e.cause) e.address

pub record Case : Type 0 where
  pub given : Answer
  pub due : Due

abbrev pub case : Answer → Due → Case
case given due = record { given = given; due = due }

-- The one statement: each question has the case's answer.
abbrev pub Hold : List Case → Type 0
Hold [] = Unit
Hold (c ∷ cs) = (due_of c.given ≡ c.due) × Hold cs
