-- A record that is told leaves the table that the public read leaves, and counts its rows. Assumes nothing.
use Prim.Native.Nat.{ℕ}
use mathlib.Core.Path.{◌≡◌, refl, sym, ap, ◌∙◌}
use mathlib.Core.List.{List}
use mathlib.Core.Bool.{Bool}
use native.Mathlib.Omega.{arith}
use lib.ListN.{length}
use Rattle.refusals.specs.Reply.{accepted}
use Rattle.elements_rules.specs.Promise.{ReadPromise}
use Rattle.elements_rules.specs.declared.row.Row.{Row}
use Rattle.fields_rules.specs.Values.{FieldValue}
use Rattle.locate_rules.specs.Asked.{Asked, found, refusing, asked, listed, has_member}
use Rattle.locate_rules.specs.Told.{fields}
use Rattle.locate_rules.specs.Promise.{RecordPromise}
use Rattle.locate_rules.specs.Theorems.{AnswerIsRead, MemberIsRead}
use Rattle.locate_rules.specs.declared.steps.Way.{Way}
use Rattle.locate_rules.proofs.Settled.{record_is_read}
use Rattle.std.proofs.Common.{Option, Ok, Some, None}

module _
    (live : Bool) (values : List Row → ℕ → List FieldValue) (s : List ℕ) (start size parent : ℕ) (t : List ℕ) (w : Way)
    (vs : List FieldValue) (n : ℕ) (t' : List ℕ) where
  told_is_read : (a : Asked) → asked live s start size parent (length t) w ≡ a
      → RecordPromise values a (length t) (fields vs n) t' → ReadPromise live s start size parent t (Ok n) t'
  told_is_read (refusing e) h p = let q = p.reply in let z : ◌≡◌ {A = ℕ} 0 1 = cc in absurd (omega arith)
  told_is_read (found rs master) h p =
      let q = p.reply in
      let e : length rs ≡ n = cc in
      let r = record_is_read live s start size parent t w rs master h in
      record {
        reply = ap accepted (sym e) ∙ r.reply;
        table = p.table ∙ r.table;
      }

  module _ (member : List Row → ℕ → Option (ℕ × Row)) where
    in_list : (rs : List Row) (master : ℕ) → asked live s start size parent (length t) w ≡ found rs master
        → (c : Option (ℕ × Row)) → RecordPromise values (has_member (found rs master) c) (length t) (fields vs n) t'
        → ReadPromise live s start size parent t (Ok n) t'
    in_list rs master h None p = let q = p.reply in let z : ◌≡◌ {A = ℕ} 0 1 = cc in absurd (omega arith)
    in_list rs master h (Some (k, r)) p = told_is_read (found rs master) h p

    member_told : (a : Asked) → asked live s start size parent (length t) w ≡ a
        → RecordPromise values (listed a member) (length t) (fields vs n) t'
        → ReadPromise live s start size parent t (Ok n) t'
    member_told (refusing e) h p = let q = p.reply in let z : ◌≡◌ {A = ℕ} 0 1 = cc in absurd (omega arith)
    member_told (found rs master) h p = in_list rs master h (member rs master) p

pub answer_is_read : AnswerIsRead
answer_is_read live values s start size parent t w vs n t' p =
    told_is_read live values s start size parent t w vs n t'
    (asked live s start size parent (length t) w) refl p

pub member_is_read : MemberIsRead
member_is_read live values member s start size parent t w vs n t' p =
    member_told live values s start size parent t w vs n t' member
    (asked live s start size parent (length t) w) refl p
