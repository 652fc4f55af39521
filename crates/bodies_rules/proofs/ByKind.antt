-- How the definition goes for each kind: a size that is not taken, octets that are missing, a value. Assumes nothing.
use mathlib.Core.Path.{◌≡◌, refl}
use mathlib.Core.List.{List}
use mathlib.Core.Bool.{Bool, true, false, ◌||◌}
use mathlib.Core.Logic.{◌⊎◌, inl, inr}
use native.Mathlib.Omega.{arith}
use Prim.Native.Nat.{ℕ, ◌+◌, ◌≤◌, ◌<◌}
use lib.ListN.{length}
use lib.Dec.{leb, eqb}
use lib.Ieee.{binary32, binary64, of_bits}
use borrow.Author.Tests.{le-leb, lt-leb, eq-eqb, ne_eqb}
use Rattle.refusals.specs.declared.refusal.Cause.TheVariants as C
use Rattle.header.specs.declared.cursor.Cursor.{Cursor}
use Rattle.kinds.specs.declared.kind.Kind.TheVariants as K
use Rattle.utf8.specs.Utf8.{utf8}
use Rattle.bodies_rules.specs.Numbers.{signed_of, float_of}
use Rattle.bodies_rules.specs.Bodies.{body_of, payload}
use Rattle.bodies_rules.specs.Reads.{body_read}
use Rattle.bodies_rules.specs.declared.body.Body.TheVariants as B
use Rattle.bodies_rules.specs.declared.body.Value.TheVariants as W
use Rattle.bodies_rules.proofs.Found.{Found}
use Rattle.std.proofs.Common.{Ok, Err}

or_true : (b : Bool) → (b || true) ≡ true
or_true true = refl
or_true false = refl

module _ (s : List ℕ) (at n : ℕ) where
  pub int_long : 8 < n → Err C.InvalidUint ≡ body_read K.Int s at n
  unfolding body_read body_of
  int_long h = rw (lt-leb n 8 h)

  pub uint_long : 8 < n → Err C.InvalidUint ≡ body_read K.Uint s at n
  unfolding body_read body_of
  uint_long h = rw (lt-leb n 8 h)

  pub date_other : (n ≡ 8 → ⊥) → Err C.InvalidDate ≡ body_read K.Date s at n
  unfolding body_read body_of
  date_other h = rw (ne_eqb n 8 h)

  pub float_other : (n ≡ 4 → ⊥) → (n ≡ 8 → ⊥) → Err C.InvalidFloat ≡ body_read K.Float s at n
  unfolding body_read body_of
  float_other h g = rw (ne_eqb n 4 h, ne_eqb n 8 g)

  -- The octets are missing.
  module _ (missing : leb (at + n) (length s) ≡ false) where
    pub int_ends : n ≤ 8 → Err C.PastEnd ≡ body_read K.Int s at n
    unfolding body_read body_of
    int_ends h = rw (le-leb n 8 h, missing)

    pub uint_ends : n ≤ 8 → Err C.PastEnd ≡ body_read K.Uint s at n
    unfolding body_read body_of
    uint_ends h = rw (le-leb n 8 h, missing)

    pub date_ends : n ≡ 8 → Err C.PastEnd ≡ body_read K.Date s at n
    unfolding body_read body_of
    date_ends h = rw (eq-eqb n 8 h, missing)

    pub float_ends : (n ≡ 4) ⊎ (n ≡ 8) → Err C.PastEnd ≡ body_read K.Float s at n
    unfolding body_read body_of
    float_ends (inl h) = rw (eq-eqb n 4 h, missing)
    float_ends (inr h) = rw (eq-eqb n 8 h, or_true (eqb n 4), missing)

    pub text_ends : Err C.PastEnd ≡ body_read K.Utf8 s at n
    unfolding body_read body_of
    text_ends = rw missing

    pub bytes_ends : Err C.PastEnd ≡ body_read K.Binary s at n
    unfolding body_read body_of
    bytes_ends = rw missing

  -- The number was read.
  module _ (v : ℕ) (next : Cursor) (f : Found s at n v next) where
    pub int_there : n ≤ 8 → Ok (B.Value (W.Integer (signed_of n v)), next) ≡ body_read K.Int s at n
    unfolding body_read body_of
    int_there h = rw (le-leb n 8 h, f.there, f.value, f.place)

    pub uint_there : n ≤ 8 → Ok (B.Value (W.Unsigned v), next) ≡ body_read K.Uint s at n
    unfolding body_read body_of
    uint_there h = rw (le-leb n 8 h, f.there, f.value, f.place)

    pub date_there : n ≡ 8 → Ok (B.Value (W.Date (signed_of n v)), next) ≡ body_read K.Date s at n
    unfolding body_read body_of
    date_there h = rw (eq-eqb n 8 h, f.there, f.value, f.place)

    pub float_there_4 : n ≡ 4 → Ok (B.Value (W.Float (of_bits binary32 v)), next) ≡ body_read K.Float s at n
    unfolding body_read body_of float_of
    float_there_4 h = rw (eq-eqb n 4 h, f.there, f.value, f.place)

    pub float_there_8 : n ≡ 8 → Ok (B.Value (W.Float (of_bits binary64 v)), next) ≡ body_read K.Float s at n
    unfolding body_read body_of float_of
    float_there_8 h = rw (eq-eqb n 8 h, ne_eqb n 4 (λ e. absurd (omega arith)), f.there, f.value, f.place)

  -- The octets are there.
  module _ (there : leb (at + n) (length s) ≡ true) where
    pub text_bad : utf8 (payload s at n) ≡ false → Err C.NotUtf8 ≡ body_read K.Utf8 s at n
    unfolding body_read body_of
    text_bad h = rw (there, h)

    pub text_there :
        utf8 (payload s at n) ≡ true
        → Ok (B.Value (W.Text (record { at = at; length = n })), record { at = at + n }) ≡ body_read K.Utf8 s at n
    unfolding body_read body_of
    text_there h = rw (there, h)

    pub bytes_there :
        Ok (B.Value (W.Bytes (record { at = at; length = n })), record { at = at + n }) ≡ body_read K.Binary s at n
    unfolding body_read body_of
    bytes_there = rw there
