-- The address question: its refusals one after another, and the reply from the rows that were read. Assumes nothing.
use Prim.Native.Nat.{ℕ, ◌/◌, ◌≤◌}
use mathlib.Core.Path.{◌≡◌, refl, sym, ap, ◌∙◌}
use mathlib.Core.List.{List}
use mathlib.Core.Bool.{Bool, true, false, not}
use native.Mathlib.Omega.{arith}
use lib.ListN.{length}
use Rattle.refusals.specs.Refusals.{bad_argument, outside}
use Rattle.refusals.specs.Reply.{refusal}
use Rattle.refusals.specs.declared.refusal.Refusal.{Refusal}
use Rattle.elements_rules.specs.Reading.{Outcome, done, refused}
use Rattle.elements_rules.specs.Rows.{rows, width, rows_of}
use Rattle.elements_rules.specs.Holds.{within}
use Rattle.elements_rules.specs.Promise.{allowed, read_of, reply_of, zeros, table_of, ReadPromise}
use Rattle.elements_rules.specs.declared.row.Row.{Row}
use Rattle.elements_rules.proofs.Outcomes.{refuses, passes}
use Rattle.elements_rules.proofs.Readback.{accepted_read}
use Rattle.places_rules.specs.Whose.{whose_in, asked_of, whose_of}
use Rattle.places_rules.specs.Promise.{whose_told, WhosePromise}
use Rattle.std.proofs.Common.{Result, Ok, Err}
use Rattle.places_rules.specs.declared.whose.WhoseRow.{WhoseRow}

-- A refusal that the reading tells is told of the question.
refusal_told : (start x : ℕ) (o : Outcome) (e : Refusal) → refusal e ≡ reply_of o → refusal e ≡ whose_of start x o
refusal_told start x (done f) e q = let z : ◌≡◌ {A = ℕ} 0 1 = cc in absurd (omega arith)
refusal_told start x (refused e') e q = let w : e ≡ e' = cc in ap refusal w

-- The rows that were read are rows of the table.
pub asked_rows :
    (live : Bool) (s : List ℕ) (start size parent : ℕ) (t t' : List ℕ) (n : ℕ)
    → ReadPromise live s start size parent t (Ok n) t'
    → n ≤ length t' / width
asked_rows live s start size parent t t' n p =
    let i = accepted_read live s start size parent t n t' p in
    rw i.as_long i.fits

module _ (live : Bool) (s : List ℕ) (start size parent x : ℕ) (t t' : List ℕ) where
  -- The reply and the table that tell the question's outcome.
  outcome_told :
      (r : Result WhoseRow Refusal) (o : Outcome) → asked_of live s start size parent x (length t) ≡ o
      → whose_told r ≡ whose_of start x o
      → t' ≡ table_of start (length t) o → WhosePromise live s start size parent x t r t'
  outcome_told r o e q z = record { reply = rw e q; table = rw e z }

  refusal_is :
      (e : Refusal) → asked_of live s start size parent x (length t) ≡ refused e → t' ≡ zeros (length t)
      → WhosePromise live s start size parent x t (Err e) t'
  unfolding table_of
  refusal_is e q z = outcome_told (Err e) (refused e) q refl z

  pub asked_broken :
      allowed s start (length t) ≡ false → t' ≡ zeros (length t)
      → WhosePromise live s start size parent x t (Err bad_argument) t'
  unfolding asked_of
  asked_broken a z = refusal_is bad_argument (refuses _ _ _ (ap not a)) z

  module _ (a : allowed s start (length t) ≡ true) where
    pub asked_outside :
        within start size x ≡ false → t' ≡ zeros (length t)
        → WhosePromise live s start size parent x t (Err outside) t'
    unfolding asked_of
    asked_outside w z = refusal_is outside (passes _ _ _ (ap not a) ∙ refuses _ _ _ (ap not w)) z

    module _ (w : within start size x ≡ true) where
      -- Past 14 and 15 the question's outcome is the reading's.
      asked_read : asked_of live s start size parent x (length t) ≡ read_of live s start size parent (length t)
      unfolding asked_of read_of
      asked_read = passes _ _ _ (ap not a) ∙ passes _ _ _ (ap not w) ∙ sym (passes _ _ _ (ap not a))

      pub asked_refused :
          (e : Refusal) → ReadPromise live s start size parent t (Err e) t'
          → WhosePromise live s start size parent x t (Err e) t'
      asked_refused e p =
          let o = read_of live s start size parent (length t) in
          outcome_told (Err e) o asked_read (refusal_told start x o e p.reply) p.table

      pub asked_found :
          (n : ℕ) (r : Result WhoseRow Refusal) → ReadPromise live s start size parent t (Ok n) t'
          → whose_told r ≡ whose_in (rows_of t' n) 0 n x → WhosePromise live s start size parent x t r t'
      asked_found n r p q =
          let i = accepted_read live s start size parent t n t' p in
          let o = read_of live s start size parent (length t) in
          outcome_told r o asked_read
          (q
          ∙ ap (λ (rs : List Row). whose_in rs 0 n x) i.rows_are
          ∙ ap (λ (m : ℕ). whose_in (rows 0 0 start 0 i.forest) 0 m x) i.number
          ∙ sym (ap (whose_of start x) i.outcome))
          p.table
