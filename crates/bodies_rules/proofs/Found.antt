-- What a big-endian number that was read says: its octets are there, and it is their number. Assumes nothing.
use mathlib.Core.Path.{◌≡◌, refl, ap, sym, ◌∙◌}
use mathlib.Core.List.{List}
use mathlib.Core.Bool.{Bool, true, false, cond}
use Prim.Native.Nat.{ℕ, ◌+◌}
use lib.ListN.{length}
use lib.Dec.{leb}
use Rattle.header.specs.Reads.{number_at}
use Rattle.header.specs.declared.cursor.Cursor.{Cursor}
use Rattle.bodies_rules.specs.Bodies.{number}
use Rattle.std.proofs.Common.{Option, Some, None, Result, Ok, Err}
use Rattle.std.specs.Prelude.{ok_or}
use Rattle.std.specs.Result.{result_ok}
use Rattle.refusals.specs.declared.refusal.Cause.{Cause}

-- A number that was read, and the place after it.
pub record Found (s : List ℕ) (at n v : ℕ) (next : Cursor) : Type 0 where
  pub there : leb (at + n) (length s) ≡ true
  pub value : v ≡ number s at n
  pub place : next ≡ record { at = at + n }

module _ (s : List ℕ) (at n : ℕ) where
  -- The number read, by whether its octets are there.
  abbrev by : Bool → Option (ℕ × Cursor)
  by t = cond t (Some (number s at n, record { at = at + n })) None

  pub found : (v : ℕ) (next : Cursor) → number_at s at n ≡ Some (v, next) → Found s at n v next
  unfolding number_at
  found v next e = go (leb (at + n) (length s)) refl e
    where
      go : (t : Bool) → leb (at + n) (length s) ≡ t → by t ≡ Some (v, next) → Found s at n v next
      go true h e =
          let p : ◌≡◌ {A = ℕ × Cursor} (number s at n, record { at = at + n }) (v, next) = cc in
          record { there = h; value = sym (ap (λ (x : ℕ × Cursor). x.0) p); place = sym (ap (λ (x : ℕ × Cursor). x.1) p) }
      go false h e = absurd cc

  pub ended : number_at s at n ≡ None → leb (at + n) (length s) ≡ false
  unfolding number_at
  ended e = go (leb (at + n) (length s)) refl e
    where
      go : (t : Bool) → leb (at + n) (length s) ≡ t → by t ≡ None → leb (at + n) (length s) ≡ false
      go true h e = absurd cc
      go false h e = h

  -- The same of a number that is asked for by `ok_or`, which tells the cause where it is missing.
  module _ (o : Option (ℕ × Cursor)) (r : Result (ℕ × Cursor) Cause) where
    pub found_ok : (v : ℕ) (next : Cursor) → o ≡ number_at s at n → o ≡ result_ok r → r ≡ Ok (v, next) → Found s at n v next
    found_ok v next read part is = found v next (sym read ∙ part ∙ ap result_ok is)

    pub ended_err : (cause e : Cause) → o ≡ number_at s at n → r ≡ ok_or o cause → r ≡ Err e
        → (e ≡ cause) × (leb (at + n) (length s) ≡ false)
    ended_err cause e read by is = go o refl
      where
        go : (p : Option (ℕ × Cursor)) → o ≡ p → (e ≡ cause) × (leb (at + n) (length s) ≡ false)
        go (Some x) q =
            let h : ◌≡◌ {A = Result (ℕ × Cursor) Cause} (Ok x) (Err e) =
            sym (by ∙ ap (λ (k : Option (ℕ × Cursor)). ok_or k cause) q) ∙ is in
            absurd cc
        go None q =
            let h : ◌≡◌ {A = Result (ℕ × Cursor) Cause} (Err cause) (Err e) =
            sym (by ∙ ap (λ (k : Option (ℕ × Cursor)). ok_or k cause) q) ∙ is in
            (cc, ended (sym read ∙ q))
