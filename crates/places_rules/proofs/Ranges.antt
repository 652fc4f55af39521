-- A row's payload: its range and the part of the recording, and when there is none. Assumes nothing.
use Prim.Native.Nat.{ℕ, ◌+◌, ◌-◌, ◌/◌, ◌≤◌, ◌<◌}
use mathlib.Core.Path.{◌≡◌, refl, sym, ap}
use mathlib.Core.List.{List, []}
use mathlib.Core.Bool.{Bool, true, false, cond, ◌&&◌}
use native.Mathlib.Omega.{arith}
use lib.ListN.{length, take, drop}
use lib.Dec.{ltb, leb}
use borrow.Author.Tests.{ltb-true, leb-true, lt-leb, lt-ltb, le-ltb}
use Rattle.header.specs.Promise.{most_bytes}
use Rattle.refusals.specs.Refusals.{bad_argument}
use Rattle.refusals.specs.declared.refusal.Refusal.{Refusal}
use Rattle.bodies_rules.specs.declared.body.Range.{Range}
use Rattle.elements_rules.specs.Rows.{width, row_at}
use Rattle.elements_rules.specs.Promise.{allowed}
use Rattle.elements_rules.specs.declared.row.Row.{Row}
use Rattle.elements_rules.proofs.Limits.{within}
use Rattle.places_rules.specs.Payload.{PayloadRange, range, refused, payload_range, range_in, bytes_of}
use Rattle.places_rules.specs.Promise.{values_of, range_told, RangePromise, PayloadPromise}
use Rattle.std.proofs.Common.{Result, Ok, Err, Option, Some, None}
use Rattle.std.specs.Prelude.{ok_or}
use Rattle.std.specs.Bool.{then_some}

-- ---- the limits, one after another

module _ (s t : List ℕ) (k : ℕ) where
  pub not_allowed : allowed s 0 (length t) ≡ false → RangePromise s t k (Err bad_argument)
  unfolding payload_range
  not_allowed a = record { reply = rw a }

  module _ (a : allowed s 0 (length t) ≡ true) where
    pub no_row : length t / width ≤ k → RangePromise s t k (Err bad_argument)
    unfolding payload_range
    no_row l = record { reply = rw (a, le-ltb k (length t / width) l) }

    module _ (l : k < length t / width) (r : Row) (q : r ≡ row_at t k) where
      pub range_told_of : (o : Option Range) (e : Result Range Refusal) → o ≡ range_in s r → e ≡ ok_or o bad_argument
          → RangePromise s t k e
      unfolding payload_range range_in
      range_told_of o e read asked =
          rw (asked, read)
          (record { reply = rw (a, lt-ltb k (length t / width) l, ← q) (go (leb (r.address + r.header + r.payload) (length s))) })
        where
          go : (b : Bool)
              → range_told (ok_or
              (cond b (Some (record { at = r.address + r.header; length = r.payload })) None) bad_argument)
              ≡ values_of (cond b (range (r.address + r.header) r.payload) (refused bad_argument))
          go true = refl
          go false = refl

-- ---- the range of a row

module _ (s : List ℕ) (r : Row) where
  pub no_range : length s < r.address + r.header + r.payload → None ≡ range_in s r
  unfolding range_in
  no_range h = rw (lt-leb (r.address + r.header + r.payload) (length s) h)

  pub range_by : then_some {T = Range} (leb (r.address + r.header + r.payload) (length s))
      (record { at = r.address + r.header; length = r.payload }) ≡ range_in s r
  unfolding range_in
  range_by = go (leb (r.address + r.header + r.payload) (length s))
    where
      go : (b : Bool) → then_some {T = Range} b (record { at = r.address + r.header; length = r.payload })
          ≡ cond b (Some (record { at = r.address + r.header; length = r.payload })) None
      go true = refl
      go false = refl

-- ---- what a reply tells

pub told_range : (p : PayloadRange) (r : Range) → range_told (Ok r) ≡ values_of p → p ≡ range r.at r.length
told_range (range at n) r q = cc
told_range (refused e) r q = let z : ◌≡◌ {A = ℕ} 0 1 = cc in absurd (omega arith)

pub told_none : (s : List ℕ) (p : PayloadRange) (e : Refusal) → range_told (Err e) ≡ values_of p → [] ≡ bytes_of s p
told_none s (range at n) e q = let z : ◌≡◌ {A = ℕ} 0 1 = cc in absurd (omega arith)
told_none s (refused e') e q = refl

-- A range lies in the recording, which is not too long.
pub record Inside (s : List ℕ) (at n : ℕ) : Type 0 where
  pub ends : at + n ≤ length s
  pub short : length s ≤ most_bytes

pub place_inside : (s t : List ℕ) (k at n : ℕ) → payload_range s t k ≡ range at n → Inside s at n
unfolding payload_range
place_inside s t k at n q =
    let r = row_at t k in
    go r (allowed s 0 (length t)) refl (ltb k (length t / width))
    (leb (r.address + r.header + r.payload) (length s))
    refl q
  where
    go : (r : Row) (a : Bool) → allowed s 0 (length t) ≡ a → (b c : Bool)
        → leb (r.address + r.header + r.payload) (length s) ≡ c
        → cond (a && (b && c)) (range (r.address + r.header) r.payload) (refused bad_argument) ≡ range at n
        → Inside s at n
    go r true e true true g w =
        let first : r.address + r.header ≡ at = cc in
        let many : r.payload ≡ n = cc in
        let end = leb-true (r.address + r.header + r.payload) (length s) g in
        record { ends = omega arith; short = (within s 0 (length t) e).bytes }
    go r true e true false g w = let z : ◌≡◌ {A = ℕ} 0 1 = cc in absurd (omega arith)
    go r true e false c g w = let z : ◌≡◌ {A = ℕ} 0 1 = cc in absurd (omega arith)
    go r false e b c g w = let z : ◌≡◌ {A = ℕ} 0 1 = cc in absurd (omega arith)

-- Each refusal of a range is 14.
pub place_refused : (s t : List ℕ) (k : ℕ) (e : Refusal) → payload_range s t k ≡ refused e → e ≡ bad_argument
unfolding payload_range
place_refused s t k e q =
    let r = row_at t k in
    go r
    (allowed s 0 (length t) &&
    (ltb k (length t / width) && leb (r.address + r.header + r.payload) (length s))) q
  where
    go : (r : Row) (b : Bool)
        → cond b (range (r.address + r.header) r.payload) (refused bad_argument) ≡ refused e
        → e ≡ bad_argument
    go r true w = let z : ◌≡◌ {A = ℕ} 0 1 = cc in absurd (omega arith)
    go r false w = let z : bad_argument ≡ e = cc in sym z

-- A row with a range is in the table.
pub place_row : (s t : List ℕ) (k at n : ℕ) → payload_range s t k ≡ range at n → k < length t / width
unfolding payload_range
place_row s t k at n q =
    let r = row_at t k in
    go (allowed s 0 (length t)) (ltb k (length t / width)) refl
    (leb (r.address + r.header + r.payload) (length s)) q
  where
    go : (a b : Bool) → ltb k (length t / width) ≡ b → (c : Bool)
        → cond (a && (b && c)) (range ((row_at t k).address + (row_at t k).header) (row_at t k).payload)
        (refused bad_argument) ≡ range at n
        → k < length t / width
    go true true e c w = ltb-true k (length t / width) e
    go true false e c w = let z : ◌≡◌ {A = ℕ} 0 1 = cc in absurd (omega arith)
    go false b e c w = let z : ◌≡◌ {A = ℕ} 0 1 = cc in absurd (omega arith)

module _ (s t : List ℕ) (k : ℕ) where
  pub range_inside : (r : Range) → RangePromise s t k (Ok r) → Inside s r.at r.length
  range_inside r p = place_inside s t k r.at r.length (told_range (payload_range s t k) r p.reply)

  -- The part from the range's first byte up to its end.
  pub part_is :
      (r : Range) → RangePromise s t k (Ok r)
      → PayloadPromise s t k (take (r.at + r.length - r.at) (drop r.at s))
  part_is r p =
      let e : r.at + r.length - r.at ≡ r.length = omega arith in
      record { reply = rw e (sym (ap (bytes_of s) (told_range (payload_range s t k) r p.reply))) }

  pub part_none : (e : Refusal) → RangePromise s t k (Err e) → PayloadPromise s t k []
  part_none e p = record { reply = told_none s (payload_range s t k) e p.reply }
