-- The families of Info, as they are looked up and as they are asked for. Assumes nothing.
use Prim.Native.Nat.{ℕ}
use mathlib.Core.Path.{◌≡◌, refl, sym, ap, ◌∙◌}
use mathlib.Core.List.{List, [], ◌∷◌}
use lib.ListN.{length}
use Rattle.refusals.specs.Refusals.{no_record}
use Rattle.refusals.specs.declared.refusal.Refusal.{Refusal}
use Rattle.kinds.specs.declared.kind.Kind.TheVariants.{Binary}
use Rattle.bodies_rules.specs.declared.body.Range.{Range}
use Rattle.elements_rules.specs.Rows.{rows_of}
use Rattle.elements_rules.specs.Promise.{zeros}
use Rattle.elements_rules.specs.declared.row.Row.{Row}
use Rattle.elements_rules.proofs.Numbered.{length_rows_of}
use Rattle.elements_rules.proofs.Whole.{zeros_as}
use Rattle.fields_rules.specs.Children.{children, nth_of}
use Rattle.fields_rules.specs.Values.{FieldValue, unset, content, range_in, content_in}
use Rattle.fields_rules.specs.Told.{content_told}
use Rattle.fields_rules.specs.declared.child.Below.{Below}
use Rattle.locate_rules.specs.Asked.{Asked, found, refusing, has_member, listed, table_after}
use Rattle.locate_rules.specs.Told.{fields, refusal}
use Rattle.locate_rules.specs.Contract.{LocateMet}
use Rattle.locate_rules.specs.Promise.{answer_of, RecordPromise}
use Rattle.locate_rules.proofs.Told.{stands_at}
use Rattle.info_rules.specs.Records.{family_of, family_in, family_fields}
use Rattle.std.proofs.Common.{Result, Option, Ok, Err, Some, None}

-- As it is looked up.
module _ (t : List ℕ) (b : Below) (i : ℕ) {c : (Option (ℕ × Row))} (e : c ≡ family_in t b i) where
  pub family_unset : c ≡ None → unset ≡ content_in (family_in t b i)
  family_unset a = ap content_in (sym a ∙ e)

  pub family_is : {n : ℕ} {r : Row} {g : Range} → c ≡ Some (n, r) → g ≡ range_in r
      → content g.at g.length ≡ content_in (family_in t b i)
  family_is a q = ap (λ (x : Range). content x.at x.length) q ∙ ap content_in (sym a ∙ e)

-- As it is asked for.
module _ (x : Asked) where
  no_family : (c : Option (ℕ × Row)) → unset ≡ content_in c → has_member x c ≡ refusing no_record
  no_family None q = refl
  no_family (Some (n, r)) q = cc

  a_family : (c : Option (ℕ × Row)) (at n : ℕ) → content at n ≡ content_in c → has_member x c ≡ x
  a_family None at n q = cc
  a_family (Some (m, r)) at n q = refl

module _ {s : List ℕ} {a : Asked} {numbers : ℕ} {r : (Result (Below × ℕ) Refusal)} {t₁ : List ℕ} (p : LocateMet s a numbers r t₁)
    (i : ℕ) where
  abbrev question : Asked
  question = listed a (family_of i)

  pub family_refused : {e : Refusal} → r ≡ Err e → RecordPromise (family_fields i) question numbers (refusal e) t₁
  family_refused {e} q =
      let w : a ≡ refusing e = (rw q at p).reply in
      let d : question ≡ refusing e = ap (λ (x : Asked). listed x (family_of i)) w in
      record {
        reply = sym (ap (answer_of (family_fields i)) d);
        table = p.table ∙ ap (table_after numbers) (w ∙ sym d);
      }

  module _ {b : Below} {n : ℕ} (q : r ≡ Ok (b, n)) (m : Option Range) (e : content_told m ≡ content_in (family_in t₁ b i)) where
    abbrev member : Option (ℕ × Row)
    member = family_of i (rows_of t₁ n) b.parent

    told : content_told m ≡ content_in member
    told =
        e ∙ ap (λ (x : List Row). content_in (nth_of i (children b.parent 0x4444 Binary x)))
        (stands_at p q).below.are

    -- The family that the question comes to.
    asks : question ≡ has_member (found (rows_of t₁ n) b.parent) member
    asks = ap (λ (x : Asked). listed x (family_of i)) (rw q at p).reply.0

    pub family_none : {f : Refusal} {t' : List ℕ} → m ≡ None → f ≡ no_record → length t₁ ≡ numbers
        → t' ≡ zeros (length t₁) → RecordPromise (family_fields i) question numbers (refusal f) t'
    family_none {f} u w l z =
        let d : question ≡ refusing f = asks ∙ no_family _ member (rw u at told) ∙ ap refusing (sym w) in
        record {
          reply = sym (ap (answer_of (family_fields i)) d);
          table = z ∙ zeros_as l ∙ sym (ap (table_after numbers) d);
        }

    pub family_found : {g : Range} → m ≡ Some g
        → RecordPromise (family_fields i) question numbers (fields (content g.at g.length ∷ []) n) t₁
    unfolding family_fields
    family_found {g} u =
        let w : content g.at g.length ≡ content_in member = rw u at told in
        let d : question ≡ found (rows_of t₁ n) b.parent = asks ∙ a_family _ member g.at g.length w in
        record {
          reply =
              ap (λ (x : FieldValue). fields (x ∷ []) n) w
              ∙ ap (fields (content_in member ∷ [])) (sym (length_rows_of t₁ n))
              ∙ sym (ap (answer_of (family_fields i)) d);
          table = p.table ∙ ap (table_after numbers) ((rw q at p).reply.0 ∙ sym d);
        }
