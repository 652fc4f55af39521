-- The public read: its limits, and the reply and the table that it leaves. Assumes nothing.
use Prim.Native.Nat.{ℕ, ◌+◌, ◌-◌, ◌*◌, ◌/◌, ◌≤◌}
use mathlib.Core.Path.{◌≡◌, refl, sym, ap, ◌∙◌, subst}
use mathlib.Core.List.{List, ◌++◌}
use mathlib.Core.Bool.{Bool, true, false, not}
use native.Mathlib.Nat.{zero-add}
use native.Mathlib.Omega.{arith}
use lib.ListN.{length, length-replicate}
use lib.Seq.{sets-eq}
use Rattle.refusals.specs.Refusals.{bad_argument}
use Rattle.header.specs.declared.cursor.Cursor.{Cursor}
use Rattle.refusals.specs.declared.refusal.Refusal.{Refusal}
use Rattle.elements_rules.specs.Forest.{Forest, count}
use Rattle.elements_rules.specs.Reading.{Outcome, done, refused, master_body}
use Rattle.elements_rules.specs.Rows.{rows, width, flatten}
use Rattle.elements_rules.specs.Promise.{keeping, allowed, filled, read_of, reply_of, zeros, table_of}
use Rattle.elements_rules.specs.Promise.{read_told, ReadPromise}
use Rattle.elements_rules.specs.Contract.{written, Met}
use Rattle.elements_rules.proofs.Outcomes.{refuses, passes}
use Rattle.elements_rules.proofs.Forests.{length_rows}
use Rattle.elements_rules.proofs.Tables.{length_flatten, drop_zeros}
use Rattle.elements_rules.proofs.Reading.{told_read, told_refused}
use Rattle.std.proofs.Common.{Result, Ok, Err}

-- Tables of one length.
pub zeros_as : {a b : ℕ} → a ≡ b → zeros a ≡ zeros b
zeros_as e = ap (λ (x : ℕ). zeros x) e

pub allowed_as : (s : List ℕ) (start : ℕ) {a b : ℕ} → a ≡ b → allowed s start a ≡ allowed s start b
allowed_as s start e = ap (allowed s start) e

-- ---- the reply and the table of an outcome

-- A reply and a table that tell an outcome.
pub record Gives (start numbers : ℕ) (o : Outcome) (r : Result ℕ Refusal) (t : List ℕ) : Type 0 where
  pub reply : read_told r ≡ reply_of o
  pub table : t ≡ table_of start numbers o

module _ (live : Bool) (start numbers : ℕ) (o : Outcome) (t : List ℕ) where
  pub gives_refusal : (e : Refusal) → o ≡ refused e → t ≡ zeros numbers → Gives start numbers o (Err e) t
  unfolding table_of
  gives_refusal e q z =
      record { reply = sym (ap reply_of q); table = z ∙ sym (ap (table_of start numbers) q) }

  pub gives_rows :
      (f : Forest) (n : ℕ) → o ≡ done f → n ≡ count f
      → t ≡ written (keeping live) (zeros numbers) 0 (rows 0 0 start 0 f) → count f ≤ numbers / width
      → Gives start numbers o (Ok n) t
  unfolding table_of written
  gives_rows f n q k w l =
      let rs = rows 0 0 start 0 f in
      let c : length rs ≡ count f = length_rows 0 0 start 0 f in
      let m : length (flatten rs) ≡ length rs * width = length_flatten rs in
      let z : length (zeros numbers) ≡ numbers = length-replicate numbers 0 in
      let r : 0 + length (flatten rs) ≤ length (zeros numbers) = omega arith in
      let e : numbers - (0 + length (flatten rs)) ≡ numbers - count f * width = omega arith in
      record {
        reply = rw k (sym (ap reply_of q));
        table =
            w
            ∙ sets-eq (flatten rs) (zeros numbers) 0 r
            ∙ ap (λ (x : List ℕ). flatten rs ++ x)
            (drop_zeros (0 + length (flatten rs)) numbers ∙ ap (λ (x : ℕ). zeros x) e)
            ∙ sym (ap (table_of start numbers) q);
      }

-- They are as promised where the outcome is the read's.
promised : (live : Bool) (s : List ℕ) (start size parent : ℕ) (t : List ℕ) (r : Result ℕ Refusal) (t' : List ℕ)
    → Gives start (length t) (read_of live s start size parent (length t)) r t'
    → ReadPromise live s start size parent t r t'
promised live s start size parent t r t' g = record { reply = g.reply; table = g.table }

-- ---- from the reader's answer on the cleared table t₁ to the promise

module _ (live : Bool) (s : List ℕ) (start size parent : ℕ) (t₁ : List ℕ) (z : t₁ ≡ zeros (length t₁)) where
  abbrev numbers : ℕ
  numbers = length t₁

  abbrev reading : Outcome
  reading = master_body s (keeping live) (numbers / width) 0 parent start size 0

  module _ (a : allowed s start numbers ≡ true) where
    outcome : read_of live s start size parent numbers ≡ reading
    unfolding read_of filled
    outcome = passes _ _ _ (ap not a)

    pub fill_refused : (e : Refusal) (t t' : List ℕ)
        → Met s (keeping live) start 0 0 start 0 reading t₁ t (Err e)
        → t' ≡ zeros numbers → ReadPromise live s start size parent t₁ (Err e) t'
    fill_refused e t t' m w =
        promised live s start size parent t₁ (Err e) t'
        (gives_refusal live start numbers (read_of live s start size parent numbers) t' e
        (outcome ∙ told_refused start 0 reading e m.reply) w)

    pub fill_done : (n : ℕ) (next : Cursor) (t : List ℕ)
        → Met s (keeping live) start 0 0 start 0 reading t₁ t (Ok (n, next))
        → ReadPromise live s start size parent t₁ (Ok n) t
    fill_done n next t m =
        let (f, u, b, c) = told_read start 0 reading n next m.reply in
        let k : n ≡ count f = b ∙ zero-add (count f) in
        let l = m.room f u refl in
        let w = subst (λ (x : List ℕ). t ≡ written (keeping live) x 0 (rows 0 0 start 0 f)) z (m.table f u) in
        promised live s start size parent t₁ (Ok n) t
        (gives_rows live start numbers (read_of live s start size parent numbers) t f n (outcome ∙ u) k w (omega arith))

-- ---- the public call

module _ (live : Bool) (s : List ℕ) (start size parent : ℕ) (t : List ℕ) where
  refused_argument : allowed s start (length t) ≡ false
      → read_of live s start size parent (length t) ≡ refused bad_argument
  unfolding read_of
  refused_argument a = refuses _ _ _ (ap not a)

  pub not_allowed : (t₁ : List ℕ) → allowed s start (length t) ≡ false → t₁ ≡ zeros (length t)
      → ReadPromise live s start size parent t (Err bad_argument) t₁
  not_allowed t₁ a z =
      promised live s start size parent t (Err bad_argument) t₁
      (gives_refusal live start (length t) (read_of live s start size parent (length t)) t₁ bad_argument
      (refused_argument a) z)

  -- What was promised of the cleared table holds of the table that the caller lent.
  pub as_lent : (t₁ t₂ : List ℕ) (r : Result ℕ Refusal) → length t₁ ≡ length t → ReadPromise live s start size parent t₁ r t₂
      → ReadPromise live s start size parent t r t₂
  as_lent t₁ t₂ r l p =
      record { reply = rw (← l) p.reply; table = rw (← l) p.table }
