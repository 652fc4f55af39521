-- A question settled: what `locate` came to, and the table that is left. Assumes nothing.
use Prim.Native.Nat.{ℕ, ◌-◌, ◌*◌}
use mathlib.Core.Path.{◌≡◌, refl, sym, ap, ◌∙◌}
use mathlib.Core.List.{List, ◌++◌}
use mathlib.Core.Bool.{Bool}
use native.Mathlib.Omega.{arith}
use lib.ListN.{length}
use borrow.Author.Tests.{not-false}
use Rattle.refusals.specs.Refusals.{no_record}
use Rattle.refusals.specs.Reply.{accepted, refusal}
use Rattle.refusals.specs.declared.refusal.Refusal.{Refusal}
use Rattle.elements_rules.specs.Forest.{count}
use Rattle.elements_rules.specs.Reading.{Outcome, done, refused}
use Rattle.elements_rules.specs.Rows.{rows, width, flatten, rows_of}
use Rattle.elements_rules.specs.Promise.{read_of, reply_of, table_of, zeros, ReadPromise}
use Rattle.elements_rules.specs.declared.row.Row.{Row}
use Rattle.elements_rules.proofs.Forests.{length_rows}
use Rattle.elements_rules.proofs.Limits.{within}
use Rattle.elements_rules.proofs.Numbered.{length_rows_of}
use Rattle.elements_rules.proofs.Outcomes.{of_refuse}
use Rattle.elements_rules.proofs.Readback.{Accepted, accepted_read}
use Rattle.elements_rules.proofs.Sound.{rows_sound}
use Rattle.elements_rules.proofs.Whole.{zeros_as}
use Rattle.fields_rules.proofs.Enough.{all_jump}
use Rattle.fields_rules.specs.Contract.{Ordered, Readable}
use Rattle.fields_rules.specs.declared.child.Below.{Below}
use Rattle.locate_rules.specs.Steps.{stepped, entered, way, reached}
use Rattle.locate_rules.specs.Asked.{Asked, found, refusing, settled, sought, asked, table_after}
use Rattle.locate_rules.specs.Contract.{Filled, Stands, FindMet, LocateMet}
use Rattle.locate_rules.specs.Theorems.{FilledAfterRead, FoundStands, RecordIsRead}
use Rattle.locate_rules.specs.declared.steps.Step.{Step}
use Rattle.locate_rules.specs.declared.steps.Step.TheVariants.{Here}
use Rattle.locate_rules.specs.declared.steps.Way.{Way}
use Rattle.locate_rules.proofs.Ways.{readable}
use Rattle.std.proofs.Common.{Result, Option, Ok, Err, Some, None}

-- ---- a filled table

pub find_stands : FoundStands
find_stands s t rows w b filled m =
    let stands : Stands s t rows b = record { filled = filled; below = m.leads.1 } in
    (stands, readable stands)

-- ---- the reading

-- What a reply that refuses says of the outcome.
told_refused : (e : Refusal) (o : Outcome) → refusal e ≡ reply_of o → o ≡ refused e
told_refused e (done f) q = cc
told_refused e (refused g) q = cc

-- The table that an accepted read leaves, whichever reply tells of it.
module _ {live : Bool} {s : List ℕ} {start size parent : ℕ} {t t₁ : List ℕ} {r : (Result ℕ Refusal)}
    (p : ReadPromise live s start size parent t r t₁) {n : ℕ} (q : r ≡ Ok n) where
  accept : Accepted live s start size parent (length t) n t₁
  accept = accepted_read live s start size parent t n t₁ (rw q at p)

  pub read_ordered : Ordered t₁ n
  read_ordered =
      record {
        held = rw accept.as_long accept.fits;
        jumps = all_jump live s start size parent t n t₁ (rw q at p);
      }

  pub read_filled : Filled s t₁ n
  unfolding read_of
  read_filled =
      record {
        ordered = read_ordered;
        short = (within s start (length t) (not-false _ (of_refuse _ _ _ accept.outcome).0)).bytes;
        sound = rows_sound live s start size parent t n t₁ (rw q at p);
      }

  -- A master that was found in it, for the builders of records.
  module _ {w : Way} {f : (Option Below)} (m : FindMet t₁ n w f) {b : Below} (a : f ≡ Some b) where
    pub found_stands : Stands s t₁ n b
    found_stands = (find_stands s t₁ n w b read_filled (rw a at m)).0

    pub found_readable : Readable s t₁ b
    found_readable = (find_stands s t₁ n w b read_filled (rw a at m)).1

module _ {live : Bool} {s : List ℕ} {start size parent : ℕ} {t t₁ : List ℕ} {r : (Result ℕ Refusal)}
    (p : ReadPromise live s start size parent t r t₁) (w : Way) where
  abbrev question : Asked
  question = asked live s start size parent (length t) w

  pub read_refused : {e : Refusal} → r ≡ Err e → LocateMet s question (length t) (Err e) t₁
  unfolding asked table_of
  read_refused {e} q =
      let o = told_refused e (read_of live s start size parent (length t)) (rw q at p).reply in
      let a : question ≡ refusing e = ap (λ (x : Outcome). sought start x (λ rs. reached rs w)) o in
      record {
        reply = a;
        table = p.table ∙ ap (table_of start (length t)) o ∙ sym (ap (table_after (length t)) a);
      }

  module _ {n : ℕ} (q : r ≡ Ok n) where
    -- Among the rows of the table, the way leads to that spot.
    pub came : (to : Option ℕ) → reached (rows_of t₁ n) w ≡ to → question ≡ settled (rows_of t₁ n) to
    unfolding asked
    came to e =
        let a = accept p q in
        ap (λ (x : Outcome). sought start x (λ rs. reached rs w)) a.outcome
        ∙ ap (λ (rs : List Row). settled rs (reached rs w)) (sym a.rows_are)
        ∙ ap (settled (rows_of t₁ n)) e

    -- The table is as the read left it.
    kept : t₁ ≡ flatten (rows_of t₁ n) ++ zeros (length t - length (rows_of t₁ n) * width)
    unfolding table_of
    kept =
        let a = accept p q in
        let l : count a.forest ≡ length (rows_of t₁ n) = sym (length_rows_of t₁ n ∙ a.number) in
        p.table ∙ ap (table_of start (length t)) a.outcome
        ∙ ap (λ (x : List Row). flatten x ++ zeros (length t - count a.forest * width)) (sym a.rows_are)
        ∙ ap (λ (x : ℕ). flatten (rows_of t₁ n) ++ zeros (length t - x * width)) l

    module _ {f : (Option Below)} (m : FindMet t₁ n w f) where
      pub found_none : {e : Refusal} {t' : List ℕ} → f ≡ None → e ≡ no_record → t' ≡ zeros (length t₁)
          → LocateMet s question (length t) (Err e) t'
      found_none {e} a b z =
          let d : question ≡ refusing e = came None (rw a at m).leads ∙ ap refusing (sym b) in
          record { reply = d; table = z ∙ zeros_as (accept p q).as_long ∙ sym (ap (table_after (length t)) d) }

      pub found_at : {b : Below} → f ≡ Some b → LocateMet s question (length t) (Ok (b, n)) t₁
      found_at {b} a =
          let d = came (Some b.parent) (rw a at m).leads.0 in
          record {
            reply = (d, found_stands p q m a);
            table = kept ∙ sym (ap (table_after (length t)) d);
          }

pub filled_after_read : FilledAfterRead
filled_after_read live s start size parent t n t' p = read_filled p refl

-- ---- one level further: from a master that was found, the third step leads on

module _ (first second third : Step) where
  further_from : (us : List Row) (at : Option ℕ) (rs : List Row) (master : ℕ)
      → settled us (entered us at Here) ≡ found rs master
      → settled us (entered us at third) ≡ settled rs (stepped rs master third)
  further_from us None rs master q = cc
  further_from us (Some p) rs master q =
      let e : us ≡ rs = cc in
      let m : p ≡ master = cc in
      ap (λ (x : List Row). settled x (stepped x p third)) e ∙ ap (λ (x : ℕ). settled rs (stepped rs x third)) m

  pub further : (live : Bool) (s : List ℕ) (start size parent numbers : ℕ) (rs : List Row) (master : ℕ)
      → asked live s start size parent numbers (way first second Here) ≡ found rs master
      → asked live s start size parent numbers (way first second third) ≡ settled rs (stepped rs master third)
  unfolding asked reached
  further live s start size parent numbers rs master q = go (read_of live s start size parent numbers) q
    where
      go : (o : Outcome) → sought start o (λ us. reached us (way first second Here)) ≡ found rs master
          → sought start o (λ us. reached us (way first second third)) ≡ settled rs (stepped rs master third)
      go (refused e) q = cc
      go (done f) q =
          let us = rows 0 0 start 0 f in
          further_from us (entered us (entered us (Some 0) first) second) rs master q

-- ---- a question that is not refused is a read

settled_found : (rs : List Row) (to : Option ℕ) (us : List Row) (master : ℕ) → settled rs to ≡ found us master → us ≡ rs
settled_found rs None us master q = let z : ◌≡◌ {A = ℕ} 0 1 = cc in absurd (omega arith)
settled_found rs (Some to) us master q = let z : rs ≡ us = cc in sym z

pub record_is_read : RecordIsRead
unfolding asked table_of
record_is_read live s start size parent t w rs master q =
    go (read_of live s start size parent (length t)) refl q
  where
    go : (o : Outcome) → read_of live s start size parent (length t) ≡ o
        → sought start o (λ us. reached us w) ≡ found rs master
        → ReadPromise live s start size parent t (Ok (length rs)) (table_after (length t) (found rs master))
    go (refused e) h q = let z : ◌≡◌ {A = ℕ} 0 1 = cc in absurd (omega arith)
    go (done f) h q =
        let us = rows 0 0 start 0 f in
        let e : rs ≡ us = settled_found us (reached us w) rs master q in
        let n : length rs ≡ count f = ap length e ∙ length_rows 0 0 start 0 f in
        record {
          reply = ap accepted n ∙ sym (ap reply_of h);
          table =
              ap (λ (x : List Row). flatten x ++ zeros (length t - length rs * width)) e
              ∙ ap (λ (m : ℕ). flatten us ++ zeros (length t - m * width)) n
              ∙ sym (ap (table_of start (length t)) h);
        }
