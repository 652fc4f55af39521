-- A tag: its Targets, and the members of their uid lists. Assumes nothing.
use Prim.Native.Nat.{ℕ, ◌+◌}
use mathlib.Core.Path.{◌≡◌, refl, sym, ap, ◌∙◌}
use mathlib.Core.List.{List, [], ◌∷◌, ◌++◌}
use mathlib.Core.Bool.{true, false}
use lib.ListN.{length}
use Rattle.refusals.specs.Refusals.{no_record}
use Rattle.refusals.specs.declared.refusal.Refusal.{Refusal}
use Rattle.kinds.specs.declared.kind.Kind.TheVariants.{Master, Uint}
use Rattle.elements_rules.specs.Rows.{rows_of}
use Rattle.elements_rules.specs.Promise.{zeros}
use Rattle.elements_rules.specs.declared.row.Row.{Row}
use Rattle.elements_rules.proofs.Numbered.{length_rows_of}
use Rattle.elements_rules.proofs.Whole.{zeros_as}
use Rattle.fields_rules.specs.Children.{children, nth_of, rows_in}
use Rattle.fields_rules.specs.Contract.{BelowIs}
use Rattle.fields_rules.specs.Values.{FieldValue, unset, number, flag, count, uint_in, number_in}
use Rattle.fields_rules.specs.Fields.{count_of}
use Rattle.fields_rules.specs.Told.{number_told}
use Rattle.fields_rules.specs.declared.child.Below.{Below}
use Rattle.locate_rules.specs.Asked.{Asked, found, refusing, has_member, listed, table_after}
use Rattle.locate_rules.specs.Told.{fields, refusal}
use Rattle.locate_rules.specs.Contract.{Stands, LocateMet}
use Rattle.locate_rules.specs.Promise.{answer_of, RecordPromise}
use Rattle.locate_rules.proofs.Inner.{last_inner, inner_is, inner_fields}
use Rattle.locate_rules.proofs.Told.{stands_at}
use Rattle.tags_rules.specs.Records.{target_of, targets_in, targets_of, tag_of, member_id, member_in, member_of, uid_of}
use Rattle.tags_rules.specs.declared.uid.UidList.{UidList}
use Rattle.std.proofs.Common.{Result, Option, Ok, Err, Some, None}

module _ {s t : List ℕ} {rows : ℕ} {b : Below} (h : Stands s t rows b) where
  -- ---- the last Targets

  module _ {c : (Option (ℕ × Row))} (e : c ≡ last_inner t b 0x63C0) where
    targets_by : targets_in s (rows_of t rows) b.parent c ≡ targets_of s (rows_of t rows) b.parent
    unfolding targets_of
    targets_by = ap (targets_in s (rows_of t rows) b.parent) (inner_is h 0x63C0 e)

    pub no_targets : c ≡ None → flag false ∷ [] ≡ targets_of s (rows_of t rows) b.parent
    no_targets a = ap (targets_in s (rows_of t rows) b.parent) (sym a) ∙ targets_by

    pub are_targets :
        {n : ℕ} {r : Row} {inner : Below} {vs : List FieldValue} → c ≡ Some (n, r) → BelowIs t rows (n + 1) inner
        → vs ≡ target_of s inner.parent (rows_in t inner)
        → flag true ∷ vs ≡ targets_of s (rows_of t rows) b.parent
    are_targets {n} a m q =
        ap (λ (v : List FieldValue). flag true ∷ v) (inner_fields (target_of s) t rows n m q)
        ∙ ap (targets_in s (rows_of t rows) b.parent) (sym a) ∙ targets_by

  pub tag_is :
      {vs : List FieldValue} {n : ℕ} → vs ≡ targets_of s (rows_of t rows) b.parent
      → n ≡ length (children b.parent 0x67C8 Master (rows_in t b))
      → vs ++ (count n ∷ []) ≡ tag_of s (rows_of t rows) b.parent
  unfolding tag_of count_of
  tag_is {vs} {n} e q =
      ap (λ (v : List FieldValue). v ++ (count n ∷ [])) e
      ∙ ap (λ (m : ℕ). targets_of s (rows_of t rows) b.parent ++ (count m ∷ []))
      (q ∙ ap (λ (y : List Row). length (children b.parent 0x67C8 Master y)) h.below.are)

-- ---- the members of a uid list

-- As it is looked up.
module _ (s t : List ℕ) (b : Below) (list : UidList) (i : ℕ) {c : (Option (ℕ × Row))} {id : ℕ} (k : id ≡ member_id list)
    (e : c ≡ nth_of i (children b.parent id Uint (rows_in t b))) where
  looked_up : c ≡ member_in t b list i
  looked_up = e ∙ ap (λ (x : ℕ). nth_of i (children b.parent x Uint (rows_in t b))) k

  pub member_unset : c ≡ None → unset ≡ number_in s (member_in t b list i)
  member_unset a = ap (number_in s) (sym a ∙ looked_up)

  pub member_is : {n v : ℕ} {r : Row} → c ≡ Some (n, r) → v ≡ uint_in s r → number v ≡ number_in s (member_in t b list i)
  member_is a q = ap number q ∙ ap (number_in s) (sym a ∙ looked_up)

-- As it is asked for.
module _ (s : List ℕ) (x : Asked) where
  no_member : (c : Option (ℕ × Row)) → unset ≡ number_in s c → has_member x c ≡ refusing no_record
  no_member None q = refl
  no_member (Some (n, r)) q = cc

  a_member : (c : Option (ℕ × Row)) (v : ℕ) → number v ≡ number_in s c → has_member x c ≡ x
  a_member None v q = cc
  a_member (Some (n, r)) v q = refl

module _ (s : List ℕ) {a : Asked} {numbers : ℕ} {r : (Result (Below × ℕ) Refusal)} {t₁ : List ℕ} (p : LocateMet s a numbers r t₁)
    (list : UidList) (i : ℕ) where
  abbrev question : Asked
  question = listed a (member_of list i)

  pub uid_refused : {e : Refusal} → r ≡ Err e
      → RecordPromise (uid_of s list i) question numbers (refusal e) t₁
  uid_refused {e} q =
      let w : a ≡ refusing e = (rw q at p).reply in
      let d : question ≡ refusing e = ap (λ (x : Asked). listed x (member_of list i)) w in
      record {
        reply = sym (ap (answer_of (uid_of s list i)) d);
        table = p.table ∙ ap (table_after numbers) (w ∙ sym d);
      }

  module _ {b : Below} {n : ℕ} (q : r ≡ Ok (b, n)) (m : Option ℕ)
      (e : number_told m ≡ number_in s (member_in t₁ b list i)) where
    abbrev member : Option (ℕ × Row)
    member = member_of list i (rows_of t₁ n) b.parent

    told : number_told m ≡ number_in s member
    told =
        e ∙ ap (λ (x : List Row). number_in s (nth_of i (children b.parent (member_id list) Uint x)))
        (stands_at p q).below.are

    -- The member that the question comes to.
    asks : question ≡ has_member (found (rows_of t₁ n) b.parent) member
    asks = ap (λ (x : Asked). listed x (member_of list i)) (rw q at p).reply.0

    pub uid_none : {f : Refusal} {t' : List ℕ} → m ≡ None → f ≡ no_record → length t₁ ≡ numbers
        → t' ≡ zeros (length t₁) → RecordPromise (uid_of s list i) question numbers (refusal f) t'
    uid_none {f} u w l z =
        let d : question ≡ refusing f = asks ∙ no_member s _ member (rw u at told) ∙ ap refusing (sym w) in
        record {
          reply = sym (ap (answer_of (uid_of s list i)) d);
          table = z ∙ zeros_as l ∙ sym (ap (table_after numbers) d);
        }

    pub uid_found : {v : ℕ} → m ≡ Some v → RecordPromise (uid_of s list i) question numbers (fields (number v ∷ []) n) t₁
    unfolding uid_of
    uid_found {v} u =
        let w : number v ≡ number_in s member = rw u at told in
        let d : question ≡ found (rows_of t₁ n) b.parent = asks ∙ a_member s _ member v w in
        record {
          reply =
              ap (λ (x : FieldValue). fields (x ∷ []) n) w
              ∙ ap (fields (number_in s member ∷ [])) (sym (length_rows_of t₁ n))
              ∙ sym (ap (answer_of (uid_of s list i)) d);
          table = p.table ∙ ap (table_after numbers) ((rw q at p).reply.0 ∙ sym d);
        }
