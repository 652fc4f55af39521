-- What each field is, by the child that was found. Assumes nothing.
use Prim.Native.Nat.{ℕ, ◌*◌, ◌^◌, ◌≤◌, ◌<◌}
use mathlib.Core.Path.{◌≡◌, refl, sym, ap, ◌∙◌}
use mathlib.Core.List.{List}
use mathlib.Core.Bool.{Bool, true, false, not}
use lib.Dec.{eqb}
use lib.IntN.{ℤ}
use lib.Ieee.{Float as Floats, binary32, binary64, of_bits}
use borrow.Author.Tests.{eq-eqb, ne_eqb, lt-ltb, le-ltb}
use Rattle.kinds.specs.declared.kind.Kind.{Kind}
use Rattle.kinds.specs.declared.kind.Kind.TheVariants.{Uint, String, Utf8, Binary, Float, Date}
use Rattle.bodies_rules.specs.Numbers.{signed_of, float_of}
use Rattle.bodies_rules.specs.declared.body.Range.{Range}
use Rattle.elements_rules.specs.declared.row.Row.{Row}
use Rattle.fields_rules.specs.Children.{children, last_of}
use Rattle.fields_rules.specs.Values.{unset, number, flag, content, ietf, text, binary, real, date}
use Rattle.fields_rules.specs.Values.{range_in, uint_in, float_in, signed_in, number_in, flag_in, content_in, real_in}
use Rattle.fields_rules.specs.Values.{date_in, language_in, value_in}
use Rattle.fields_rules.specs.Fields.{number_of, flag_of, content_of, real_of, date_of, language_of, value_of}
use Rattle.fields_rules.specs.Told.{number_told, flag_told, content_told, language_told}
use Rattle.fields_rules.specs.declared.field.Language.{Language}
use Rattle.fields_rules.specs.declared.field.Language.TheVariants.{Iso}
use Rattle.std.proofs.Common.{Option, Some, None, option_map}

-- ---- the pattern of a float or a date

module _ (s : List ℕ) (r : Row) (v : ℕ) (q : v ≡ uint_in s r) where
  pub narrow : r.payload ≡ 4 → v < 2 ^ (8 * r.payload) → v < 2 ^ 32
  narrow e l = rw e at l

  pub of_4 : (x : Floats) → r.payload ≡ 4 → x ≡ of_bits binary32 v → x ≡ float_in s r
  unfolding float_of
  of_4 x e w = rw (eq-eqb r.payload 4 e, ← q) w

  pub of_8 : (x : Floats) → (r.payload ≡ 4 → ⊥) → x ≡ of_bits binary64 v → x ≡ float_in s r
  unfolding float_of
  of_8 x e w = rw (ne_eqb r.payload 4 e, ← q) w

  pub of_date : (z : ℤ) → z ≡ signed_of r.payload v → z ≡ signed_in s r
  of_date z w = w ∙ ap (signed_of r.payload) q

-- ---- the fields, by the last child that was found

module _ (s : List ℕ) (parent : ℕ) (below : List Row) where
  module _ (id : ℕ) where
    module _ {c : (Option (ℕ × Row))} (e : c ≡ last_of (children parent id Uint below)) where
      pub number_unset : c ≡ None → unset ≡ number_of s parent below id
      unfolding number_of
      number_unset a = ap (number_in s) (sym a ∙ e)

      module _ {n v : ℕ} {r : Row} (a : c ≡ Some (n, r)) (q : v ≡ uint_in s r) where
        pub number_is : number v ≡ number_of s parent below id
        unfolding number_of
        number_is = ap number q ∙ ap (number_in s) (sym a ∙ e)

    -- A flag is by its number.
    flag_by : (r : Option ℕ) (c : Option (ℕ × Row)) → number_told r ≡ number_in s c
        → flag_told (option_map (λ (n : ℕ). not (eqb n 0)) r) ≡ flag_in s c
    flag_by None None e = refl
    flag_by None (Some (n, row)) e = cc
    flag_by (Some v) None e = cc
    flag_by (Some v) (Some (n, row)) e =
        let z : v ≡ uint_in s row = cc in told (not (eqb v 0)) ∙ ap (λ (w : ℕ). flag (not (eqb w 0))) z
      where
        told : (b : Bool) → flag_told (Some b) ≡ flag b
        told true = refl
        told false = refl

    pub flag_is : (r : Option ℕ) {f : Option Bool} → number_told r ≡ number_of s parent below id
        → f ≡ option_map (λ (n : ℕ). not (eqb n 0)) r → flag_told f ≡ flag_of s parent below id
    unfolding number_of flag_of
    flag_is r e q = ap flag_told q ∙ flag_by r _ e

    module _ {c : (Option (ℕ × Row))} (e : c ≡ last_of (children parent id Float below)) where
      pub real_unset : c ≡ None → unset ≡ real_of s parent below id
      unfolding real_of
      real_unset a = ap (real_in s) (sym a ∙ e)

      pub real_is : {n : ℕ} {r : Row} {x : Floats} → c ≡ Some (n, r) → x ≡ float_in s r → real x ≡ real_of s parent below id
      unfolding real_of
      real_is a q = ap real q ∙ ap (real_in s) (sym a ∙ e)

    module _ {c : (Option (ℕ × Row))} (e : c ≡ last_of (children parent id Date below)) where
      pub date_unset : c ≡ None → unset ≡ date_of s parent below id
      unfolding date_of
      date_unset a = ap (date_in s) (sym a ∙ e)

      pub date_is : {n : ℕ} {r : Row} {z : ℤ} → c ≡ Some (n, r) → z ≡ signed_in s r → date z ≡ date_of s parent below id
      unfolding date_of
      date_is a q = ap date q ∙ ap (date_in s) (sym a ∙ e)

    module _ (kind : Kind) {c : (Option (ℕ × Row))} (e : c ≡ last_of (children parent id kind below)) where
      pub content_unset : c ≡ None → unset ≡ content_of s parent below id kind
      unfolding content_of
      content_unset a = ap content_in (sym a ∙ e)

      pub content_at : {n : ℕ} {r : Row} {g : Range} → c ≡ Some (n, r) → g ≡ range_in r
          → content g.at g.length ≡ content_of s parent below id kind
      unfolding content_of
      content_at a q = ap (λ (x : Range). content x.at x.length) q ∙ ap content_in (sym a ∙ e)

  -- The one that decides comes first: an IETF language, else an ISO 639 one.
  module _ (isos ietfs : ℕ) where
    abbrev last_string : ℕ → Option (ℕ × Row)
    last_string id = last_of (children parent id String below)

    pub language_ietf : {g : Range} → content g.at g.length ≡ content_of s parent below ietfs String
        → ietf g.at g.length ≡ language_of s parent below isos ietfs
    unfolding content_of language_of
    language_ietf {g} e = go (last_string ietfs) e
      where
        go : (c : Option (ℕ × Row)) → content g.at g.length ≡ content_in c
            → ietf g.at g.length ≡ language_in c (last_string isos)
        go None q = cc
        go (Some (n, r)) q = cc

    pub language_iso : unset ≡ content_of s parent below ietfs String → (x : Option Range) {l : Option Language}
        → content_told x ≡ content_of s parent below isos String → l ≡ option_map Iso x
        → language_told l ≡ language_of s parent below isos ietfs
    unfolding content_of language_of
    language_iso e x f q = ap language_told q ∙ go (last_string ietfs) (last_string isos) x e f
      where
        go : (c d : Option (ℕ × Row)) (x : Option Range) → unset ≡ content_in c → content_told x ≡ content_in d
            → language_told (option_map Iso x) ≡ language_in c d
        go (Some (n, r)) d x a b = cc
        go None None None a b = refl
        go None None (Some g) a b = cc
        go None (Some (m, r)) None a b = cc
        go None (Some (m, r)) (Some g) a b = cc

  -- The later of a text and bytes.
  module _ (texts binaries : ℕ) {c d : (Option (ℕ × Row))} (e : c ≡ last_of (children parent texts Utf8 below))
      (f : d ≡ last_of (children parent binaries Binary below)) where
    both : (x y : Option (ℕ × Row)) → c ≡ x → d ≡ y → value_in x y ≡ value_of s parent below texts binaries
    unfolding value_of
    both x y a b =
        ap (λ (z : Option (ℕ × Row)). value_in z y) (sym a ∙ e)
        ∙ ap (value_in (last_of (children parent texts Utf8 below))) (sym b ∙ f)

    pub value_unset : c ≡ None → d ≡ None → unset ≡ value_of s parent below texts binaries
    value_unset a b = both None None a b

    pub value_binary : {m : ℕ} {q : Row} {g : Range} → c ≡ None → d ≡ Some (m, q) → g ≡ range_in q
        → binary g.at g.length ≡ value_of s parent below texts binaries
    value_binary {m} {q} a b w = ap (λ (x : Range). binary x.at x.length) w ∙ both None (Some (m, q)) a b

    pub value_text : {n : ℕ} {r : Row} {g : Range} → c ≡ Some (n, r) → d ≡ None → g ≡ range_in r
        → text g.at g.length ≡ value_of s parent below texts binaries
    value_text {n} {r} a b w = ap (λ (x : Range). text x.at x.length) w ∙ both (Some (n, r)) None a b

    module _ {n m : ℕ} {r q : Row} {g : Range} (a : c ≡ Some (n, r)) (b : d ≡ Some (m, q)) where
      pub later_binary : n < m → g ≡ range_in q → binary g.at g.length ≡ value_of s parent below texts binaries
      later_binary l w =
          ap (λ (x : Range). binary x.at x.length) w ∙ sym (rw (lt-ltb n m l)) ∙ both (Some (n, r)) (Some (m, q)) a b

      pub later_text : m ≤ n → g ≡ range_in r → text g.at g.length ≡ value_of s parent below texts binaries
      later_text l w =
          ap (λ (x : Range). text x.at x.length) w ∙ sym (rw (le-ltb n m l)) ∙ both (Some (n, r)) (Some (m, q)) a b
