-- The start of `open`: the lengths, and the segment. Assumes nothing.
use Prim.Native.Nat.{ℕ, ◌≤◌}
use mathlib.Core.Path.{◌≡◌, refl}
use mathlib.Core.List.{List}
use mathlib.Core.Bool.{Bool, true, false, ◌&&◌}
use lib.ListN.{length}
use Rattle.refusals.specs.Refusals.{bad_argument}
use Rattle.refusals.specs.declared.refusal.Refusal.{Refusal}
use Rattle.header.specs.Promise.{most_bytes}
use Rattle.header.specs.declared.cursor.Headed.{Headed}
use Rattle.elements_rules.specs.Promise.{allowed}
use Rattle.elements_rules.proofs.Limits.{within}
use Rattle.segments_rules.specs.Segment.{segment_of}
use Rattle.segments_rules.proofs.Walks.{segment_there}
use Rattle.open_rules.specs.Tables.{Sizes}
use Rattle.open_rules.specs.Opening.{whole_of}
use Rattle.open_rules.specs.Promise.{are_allowed, open_of}
use Rattle.open_rules.specs.Contract.{Begins}
use Rattle.open_rules.specs.declared.turns.Stage.{Stage}
use Rattle.open_rules.specs.declared.turns.Stage.TheVariants.{From}
use Rattle.std.proofs.Common.{Result, Ok, Err}

both : (a b : Bool) → (a && b) ≡ true → a ≡ true
both true b q = refl
both false b q = q

-- A recording that is allowed is within its limit.
pub small : (s : List ℕ) (n : Sizes) → are_allowed s n ≡ true → length s ≤ most_bytes
unfolding are_allowed
small s n a = (within s 0 n.info (both (allowed s 0 n.info) _ a)).bytes

module _ (live : Bool) (s : List ℕ) (n : Sizes) (r : Result Stage Refusal) where
  pub begin_bad : (e : Refusal) → are_allowed s n ≡ false → e ≡ bad_argument → r ≡ Err e → Begins live s n r
  unfolding open_of
  begin_bad e a q x = rw (x, a, q) refl

  module _ (a : are_allowed s n ≡ true) where
    pub begin_stopped : (e : Refusal) → segment_of live s ≡ Err e → r ≡ Err e → Begins live s n r
    unfolding open_of whole_of
    begin_stopped e q x = rw (x, a, q) refl

    pub begin_at : (segment : Headed) → segment_of live s ≡ Ok segment → r ≡ Ok (From segment segment.payload.at)
        → Begins live s n r
    unfolding open_of whole_of
    begin_at segment q x =
        rw x (record { small = small s n a; there = segment_there live s segment q }, rw (a, q) refl)
