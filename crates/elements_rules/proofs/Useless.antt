-- The useless readers of the table are shut out (`NotAllRefused`, `NotOneTable`, `NotUntouched`). Assumes nothing.
use Prim.Native.Nat.{ℕ, ◌+◌, ◌-◌, ◌*◌, ◌≤◌}
use mathlib.Core.Path.{◌≡◌, refl, sym, ap, ◌∙◌, subst}
use mathlib.Core.List.{List, ◌∷◌, ◌++◌}
use mathlib.Core.Bool.{Bool, true, false}
use native.Mathlib.Omega.{arith}
use lib.ListN.{length, get_or}
use lib.Seq.{get_or-append-add}
use Rattle.header.specs.Vint.{octet_bits, bits, one_more, width_of, big_endian_from, big_endian, of_width, vint_of}
use Rattle.header.specs.Header.{sized, named, header_of}
use Rattle.refusals.specs.Reply.{accepted}
use Rattle.refusals.specs.declared.refusal.Refusal.{Refusal}
use Rattle.sizes.specs.Unknown.{unknown}
use Rattle.kinds.specs.Elements.{elements}
use Rattle.kinds.specs.Kinds.{kind_in, keeps, kind_under}
use Rattle.bodies_rules.specs.Bodies.{body_of}
use Rattle.elements_rules.specs.Forest.{Forest, span, count, join}
use Rattle.elements_rules.specs.Reading.{Outcome, done, refused, refuse_if, full, siblings, element, master_body}
use Rattle.elements_rules.specs.Rows.{rows, width, flat, flatten}
use Rattle.elements_rules.specs.Promise.{is_table, allowed, filled, read_of, reply_of, zeros, table_of, read_told}
use Rattle.elements_rules.specs.Useless.{track_entry, block_group, NotAllRefused, NotOneTable, NotUntouched}
use Rattle.elements_rules.proofs.Forests.{length_rows}
use Rattle.elements_rules.proofs.Tables.{length_flatten, zeros_at}
use Rattle.elements_rules.proofs.Readback.{accepted_read}
use Rattle.std.proofs.Common.{Result, Ok, Err}

-- ---- two payloads, computed

unfoldable computed : (live : Bool) → Type 0
computed live =
    (reply_of (read_of live track_entry 0 2 0 (2 * width)) ≡ accepted 1)
    × (table_of 0 (2 * width) (read_of live track_entry 0 2 0 (2 * width)) ≡ 0xAE ∷ 0 ∷ 0 ∷ 2 ∷ 0 ∷ 1 ∷ 0 ∷ 1
    ∷ zeros width)
    × (table_of 0 (2 * width) (read_of live block_group 0 2 0 (2 * width)) ≡ 0xA0 ∷ 0 ∷ 0 ∷ 2 ∷ 0 ∷ 1 ∷ 0 ∷ 1
    ∷ zeros width)

both_read : (live : Bool) → computed live
unfolding computed octet_bits bits one_more width_of big_endian_from big_endian of_width vint_of sized named header_of
    elements kind_in keeps kind_under span body_of count join refuse_if full siblings element master_body rows flat flatten
    is_table allowed filled read_of table_of unknown
both_read true = (refl, refl, refl)
both_read false = (refl, refl, refl)

pub rows_told : (r : Result ℕ Refusal) (n : ℕ) → read_told r ≡ accepted n → r ≡ Ok n
rows_told (Ok m) n q = cc
rows_told (Err e) n q = let z : ◌≡◌ {A = ℕ} 0 1 = cc in absurd (omega arith)

pub not_all_refused : NotAllRefused
unfolding computed
not_all_refused live t r t' l p =
    let a = ap (λ (n : ℕ). reply_of (read_of live track_entry 0 2 0 n)) l in
    let b = ap (λ (n : ℕ). table_of 0 n (read_of live track_entry 0 2 0 n)) l in
    (rows_told r 1 (p.reply ∙ a ∙ (both_read live).0), p.table ∙ b ∙ (both_read live).1)

pub not_one_table : NotOneTable
unfolding computed
not_one_table live t u r r' t' l m p q =
    let a = p.table ∙ ap (λ (n : ℕ). table_of 0 n (read_of live track_entry 0 2 0 n)) l ∙ (both_read live).1 in
    let b = q.table ∙ ap (λ (n : ℕ). table_of 0 n (read_of live block_group 0 2 0 n)) m ∙ (both_read live).2 in
    let e : ◌≡◌ {A = ℕ} 0xAE 0xA0 = ap (λ (x : List ℕ). get_or x 0 0) (sym a ∙ b) in
    omega arith

-- ---- what is left of a table

beyond : (start numbers : ℕ) (f : Forest) (k : ℕ) → count f * width ≤ k
    → get_or (table_of start numbers (done f)) k 0 ≡ 0
unfolding table_of
beyond start numbers f k l =
    let c = length_rows 0 0 start 0 f in
    let m = length_flatten (rows 0 0 start 0 f) in
    let e : k ≡ length (flatten (rows 0 0 start 0 f)) + (k - count f * width) = omega arith in
    ap (λ (i : ℕ). get_or (flatten (rows 0 0 start 0 f) ++ zeros (numbers - count f * width)) i 0) e
    ∙ get_or-append-add (flatten (rows 0 0 start 0 f)) (zeros (numbers - count f * width)) (k - count f * width) 0
    ∙ zeros_at (numbers - count f * width) (k - count f * width)

cleared_of : (start numbers : ℕ) (o : Outcome) (e : Refusal) (t' : List ℕ) → read_told (Err e) ≡ reply_of o
    → t' ≡ table_of start numbers o → t' ≡ zeros numbers
unfolding table_of
cleared_of start numbers (done f) e t' q w = let z : ◌≡◌ {A = ℕ} 0 1 = cc in absurd (omega arith)
cleared_of start numbers (refused r) e t' q w = w

pub not_untouched : NotUntouched
not_untouched live s start size parent t t' = (
  (λ n p k l.
      let a = accepted_read live s start size parent t n t' p in
      let j : count a.forest * width ≤ k = subst (λ (x : ℕ). x * width ≤ k) a.number l in
      ap (λ (x : List ℕ). get_or x k 0) (p.table ∙ ap (table_of start (length t)) a.outcome)
      ∙ beyond start (length t) a.forest k j),
  (λ e p. cleared_of start (length t) (read_of live s start size parent (length t)) e t' p.reply p.table),
)
