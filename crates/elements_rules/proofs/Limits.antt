-- The limits of a read's arguments, one after another. Assumes nothing.
use Prim.Native.Nat.{ℕ, ◌*◌, ◌%◌, ◌≤◌, ◌<◌}
use mathlib.Core.Path.{◌≡◌, refl}
use mathlib.Core.List.{List}
use mathlib.Core.Bool.{Bool, true, false, not, ◌&&◌}
use lib.ListN.{length}
use lib.Dec.{leb, eqb}
use borrow.Author.Tests.{leb-true, eqb-true, not-false, le-leb, lt-leb, eq-eqb}
use Rattle.header.specs.Promise.{most_bytes}
use Rattle.elements_rules.specs.Rows.{width}
use Rattle.elements_rules.specs.Promise.{most_rows, is_table, allowed}

module _ (s : List ℕ) (start numbers : ℕ) where
  -- A place of the recording, tested before the table.
  abbrev is_place : Bool
  is_place = leb (length s) most_bytes && leb start (length s)

  pub by_table : is_place ≡ true → is_table numbers ≡ allowed s start numbers
  unfolding allowed
  by_table q = go (leb (length s) most_bytes) (leb start (length s)) (is_table numbers) q
    where
      go : (a b c : Bool) → (a && b) ≡ true → c ≡ (a && (c && b))
      go true true true q = refl
      go true true false q = refl
      go true false c q = absurd cc
      go false b c q = absurd cc

  pub no_place : is_place ≡ false → is_place ≡ allowed s start numbers
  unfolding allowed
  no_place q = go (leb (length s) most_bytes) (leb start (length s)) (is_table numbers) q
    where
      go : (a b c : Bool) → (a && b) ≡ false → (a && b) ≡ (a && (c && b))
      go true true c q = absurd cc
      go true false true q = refl
      go true false false q = refl
      go false b c q = refl

  pub too_long : most_bytes < length s → false ≡ allowed s start numbers
  unfolding allowed
  too_long h = rw (lt-leb (length s) most_bytes h)

  pub by_start : length s ≤ most_bytes → numbers % width ≡ 0 → numbers ≤ most_rows * width
      → leb start (length s) ≡ allowed s start numbers
  unfolding allowed is_table
  by_start a b h =
      rw (le-leb (length s) most_bytes a, eq-eqb (numbers % width) 0 b, le-leb numbers (most_rows * width) h)

  -- What arguments that are allowed keep to.
  pub record Within : Type 0 where
    pub bytes : length s ≤ most_bytes
    pub multiple : numbers % width ≡ 0
    pub few : numbers ≤ most_rows * width
    pub inside : start ≤ length s

  pub within : allowed s start numbers ≡ true → Within
  unfolding allowed is_table
  within q = go (leb (length s) most_bytes) refl (eqb (numbers % width) 0) refl (leb numbers (most_rows * width)) refl
      (leb start (length s)) refl q
    where
      go : (a : Bool) → leb (length s) most_bytes ≡ a → (b : Bool) → eqb (numbers % width) 0 ≡ b
          → (c : Bool) → leb numbers (most_rows * width) ≡ c → (d : Bool) → leb start (length s) ≡ d
          → (a && ((b && c) && d)) ≡ true → Within
      go true e true f true g true h w = record {
        bytes = leb-true _ _ e;
        multiple = eqb-true _ _ f;
        few = leb-true _ _ g;
        inside = leb-true _ _ h;
      }
      go true e true f true g false h w = absurd cc
      go true e true f false g d h w = absurd cc
      go true e false f c g d h w = absurd cc
      go false e b f c g d h w = absurd cc

  -- As a read's outcome tells it: it is not refused.
  pub start_inside : not (allowed s start numbers) ≡ false → start ≤ length s
  start_inside q = (within (not-false (allowed s start numbers) q)).inside
