-- What the place behind some octets says, where it is asked for by `ok_or`. Assumes nothing.
use mathlib.Core.Path.{◌≡◌, refl, sym, ap, ◌∙◌}
use mathlib.Core.List.{List}
use mathlib.Core.Bool.{Bool, true, false, cond}
use Prim.Native.Nat.{ℕ, ◌+◌, ◌<◌}
use lib.ListN.{length}
use lib.Dec.{leb}
use borrow.Author.Tests.{lt-leb}
use Rattle.std.proofs.Common.{Option, Some, None, Result, Ok, Err}
use Rattle.std.specs.Prelude.{ok_or}
use Rattle.std.specs.Bool.{then_some}
use Rattle.std.specs.Result.{result_ok}
use Rattle.refusals.specs.declared.refusal.Cause.{Cause}
use Rattle.header.specs.declared.cursor.Cursor.{Cursor}
use Rattle.bodies_rules.specs.Reads.{end_of}

module _ (s : List ℕ) (at n : ℕ) where
  -- The end as its test goes.
  abbrev by : Bool → Option Cursor
  by t = cond t (Some (record { at = at + n })) None

  pub no_end : length s < at + n → None ≡ end_of s at n
  no_end h = rw (lt-leb (at + n) (length s) h)

  pub end_told : then_some (leb (at + n) (length s)) (record { at = at + n }) ≡ end_of s at n
  end_told = go (leb (at + n) (length s))
    where
      go : (t : Bool) → then_some t (record { at = at + n }) ≡ by t
      go true = refl
      go false = refl

  module _ (o : Option Cursor) (r : Result Cursor Cause) where
    pub end_there : (next : Cursor) → o ≡ end_of s at n → o ≡ result_ok r → r ≡ Ok next
        → (leb (at + n) (length s) ≡ true) × (next ≡ record { at = at + n })
    end_there next read part is = go (leb (at + n) (length s)) refl (sym read ∙ part ∙ ap result_ok is)
      where
        go : (t : Bool) → leb (at + n) (length s) ≡ t → by t ≡ Some next
            → (leb (at + n) (length s) ≡ true) × (next ≡ record { at = at + n })
        go true h e = (h, cc)
        go false h e = absurd cc

    pub end_missing : (cause e : Cause) → o ≡ end_of s at n → r ≡ ok_or o cause → r ≡ Err e
        → (e ≡ cause) × (leb (at + n) (length s) ≡ false)
    end_missing cause e read asked is =
        go (leb (at + n) (length s)) refl (sym (asked ∙ ap (λ (k : Option Cursor). ok_or k cause) read) ∙ is)
      where
        go : (t : Bool) → leb (at + n) (length s) ≡ t → ok_or (by t) cause ≡ Err e
            → (e ≡ cause) × (leb (at + n) (length s) ≡ false)
        go true h q = absurd cc
        go false h q = (cc, h)
