-- What a field's number says, from the number that was read. Assumes nothing.
use Prim.Native.Nat.{ℕ}
use mathlib.Core.Path.{◌≡◌, refl, ◌∙◌}
use mathlib.Core.List.{List}
use Rattle.elements_rules.specs.declared.row.Row.{Row}
use Rattle.fields_rules.specs.Values.{FieldValue, unset, number_in}
use Rattle.fields_rules.specs.Fields.{last_child, number_of}
use Rattle.fields_rules.specs.Told.{number_told}
use Rattle.kinds.specs.declared.kind.Kind.TheVariants.{Uint}
use Rattle.media_rules.specs.Said.{said_in, said_of, said}
use Rattle.std.proofs.Common.{Option, Some, None}

said_by : (says : ℕ → FieldValue) (s : List ℕ) (n : Option ℕ) (c : Option (ℕ × Row)) → number_told n ≡ number_in s c
    → said says n ≡ said_in says s c
said_by says s None None q = refl
said_by says s None (Some (m, r)) q = cc
said_by says s (Some n) None q = cc
said_by says s (Some n) (Some (m, r)) q = cc

-- What is told of it, once the number is read.
module _ (says : ℕ → FieldValue) (s : List ℕ) (parent : ℕ) (below : List Row) (id : ℕ) {v : FieldValue} (n : Option ℕ)
    (e : v ≡ said says n) (q : number_told n ≡ number_of s parent below id) where
  pub said_of_law : v ≡ said_of says s parent below id
  unfolding number_of said_of
  said_of_law = e ∙ said_by says s n (last_child s parent below id Uint) q

-- A number that may be unset, by the case that it was found to be.
pub said_unset : (says : ℕ → FieldValue) {n : (Option ℕ)} → n ≡ None → unset ≡ said says n
said_unset says e = rw e

pub said_is : (says : ℕ → FieldValue) {n : (Option ℕ)} {m : ℕ} {v : FieldValue} → n ≡ Some m → v ≡ says m → v ≡ said says n
said_is says e q = rw e q
