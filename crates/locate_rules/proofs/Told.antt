-- A record question by what `locate` replied: the rows that the fields are read from, and what is told.
-- Assumes nothing.
use Prim.Native.Nat.{ℕ}
use mathlib.Core.Path.{◌≡◌, sym, ap, ◌∙◌}
use mathlib.Core.List.{List}
use Rattle.refusals.specs.declared.refusal.Refusal.{Refusal}
use Rattle.elements_rules.specs.Rows.{rows_of}
use Rattle.elements_rules.specs.declared.row.Row.{Row}
use Rattle.elements_rules.proofs.Numbered.{length_rows_of}
use Rattle.fields_rules.specs.Children.{rows_in}
use Rattle.fields_rules.specs.Contract.{Readable}
use Rattle.fields_rules.specs.Values.{FieldValue}
use Rattle.fields_rules.specs.declared.child.Below.{Below}
use Rattle.locate_rules.specs.Asked.{Asked}
use Rattle.locate_rules.specs.Told.{fields, refusal}
use Rattle.locate_rules.specs.Contract.{Stands, LocateMet}
use Rattle.locate_rules.specs.Promise.{answer_of, RecordPromise, of_below}
use Rattle.locate_rules.proofs.Ways.{readable}
use Rattle.std.proofs.Common.{Result, Ok, Err}

module _ {s : List ℕ} {a : Asked} {numbers : ℕ} {r : (Result (Below × ℕ) Refusal)} {t' : List ℕ} (p : LocateMet s a numbers r t') where
  pub told_refused : {values : List Row → ℕ → List FieldValue} {e : Refusal} → r ≡ Err e
      → RecordPromise values a numbers (refusal e) t'
  told_refused {values} q = record { reply = sym (ap (answer_of values) (rw q at p).reply); table = p.table }

  module _ {b : Below} {n : ℕ} (q : r ≡ Ok (b, n)) where
    pub stands_at : Stands s t' n b
    stands_at = (rw q at p).reply.1

    pub readable_at : Readable s t' b
    readable_at = readable stands_at

    pub told_found : {values : List Row → ℕ → List FieldValue} {vs : List FieldValue}
        → vs ≡ values (rows_of t' n) b.parent
        → RecordPromise values a numbers (fields vs n) t'
    told_found {values} e =
        record {
          reply =
              ap (λ (x : List FieldValue). fields x n) e
              ∙ ap (fields (values (rows_of t' n) b.parent)) (sym (length_rows_of t' n))
              ∙ sym (ap (answer_of values) (rw q at p).reply.0);
          table = p.table;
        }

-- The same of a record that is built of the rows below its master.
module _ (values : List ℕ → ℕ → List Row → List FieldValue) {s : List ℕ} {a : Asked} {numbers : ℕ} {r : (Result (Below × ℕ) Refusal)} where
  pub told_below : {t' : List ℕ} {b : Below} {n : ℕ} {vs : List FieldValue} → LocateMet s a numbers r t' → r ≡ Ok (b, n)
      → vs ≡ values s b.parent (rows_in t' b) → RecordPromise (of_below (values s)) a numbers (fields vs n) t'
  told_below {b = b} p q e = told_found p q (e ∙ ap (values s b.parent) (stands_at p q).below.are)
