-- A chapter's first display with a set string: as a loop looks for it, and as `display_at` tells it. Assumes nothing.
use Prim.Native.Nat.{ℕ, zero, suc, ◌+◌, ◌-◌, ◌*◌, ◌≤◌, ◌<◌}
use mathlib.Core.Path.{◌≡◌, refl, sym, ap, ◌∙◌}
use mathlib.Core.List.{List, [], ◌∷◌}
use native.Mathlib.Omega.{arith}
use lib.ListN.{length, drop}
use Rattle.bodies_rules.specs.declared.body.Range.{Range}
use Rattle.kinds.specs.declared.kind.Kind.TheVariants.{Master}
use Rattle.elements_rules.specs.Rows.{width, rows_of}
use Rattle.elements_rules.proofs.Numbered.{length_rows_of}
use Rattle.elements_rules.specs.declared.row.Row.{Row}
use Rattle.fields_rules.specs.Children.{subtree, children, nth_of, rows_in}
use Rattle.fields_rules.specs.Values.{FieldValue, unset, content_in, range_in}
use Rattle.fields_rules.specs.Fields.{content_of}
use Rattle.fields_rules.specs.Told.{content_told}
use Rattle.fields_rules.proofs.Once.{content_once}
use Rattle.fields_rules.specs.declared.child.Below.{Below}
use Rattle.fields_rules.proofs.Picked.{All, all_if, all_before}
use Rattle.fields_rules.proofs.Rest.{either}
use Rattle.children.proofs.Drained.{as_many}
use Rattle.locate_rules.specs.Contract.{Stands}
use Rattle.locate_rules.specs.Steps.{spot_of}
use Rattle.locate_rules.specs.Asked.{settled}
use Rattle.locate_rules.specs.declared.steps.Step.TheVariants.{Nth}
use Rattle.locate_rules.specs.Promise.{answer_of, of_below}
use Rattle.locate_rules.proofs.Settled.{further}
use Rattle.chapters.specs.Records.{display_of}
use Rattle.chapters.specs.First.{string_of, string_row, or_later, first_from, first_string}
use Rattle.chapters.specs.Told.{display_told}
use Rattle.chapters.specs.Theorems.{string_told, First, FirstOfDisplays}
use Rattle.booleans.proofs.Pairs.{some_halves}
use Rattle.std.proofs.Common.{Result, Option, Ok, Err, Some, None}
use Rattle.chapters.specs.declared.display.ChapterDisplay.{ChapterDisplay}
use Rattle.refusals.specs.declared.refusal.Refusal.{Refusal}

-- ---- one turn of the loop: the display whose string is x

module _ (s : List ℕ) (rs : List Row) (j n : ℕ) (r : Row) (ds : List (Option (ℕ × Row))) {first : (Option (ℕ × Range))}
    (e : first ≡ first_from s rs j (Some (n, r) ∷ ds)) {x : (Option Range)} (q : content_told x ≡ string_of s rs n) where
  turn : (c : Option (ℕ × Row)) → content_told x ≡ content_in c → first ≡ or_later s rs j c (first_from s rs (j + 1) ds)
      → ((g : Range) → x ≡ Some g → Some (j, g) ≡ first) × (x ≡ None → first ≡ first_from s rs (j + 1) ds)
  turn None w f = ((λ g a. cc), (λ a. f))
  turn (Some (m, y)) w f = ((λ g a. cc (eta g)), (λ a. cc))
    where
      eta : (g : Range) → g ≡ record { at = g.at; length = g.length }
      eta g = refl

  both : ((g : Range) → x ≡ Some g → Some (j, g) ≡ first) × (x ≡ None → first ≡ first_from s rs (j + 1) ds)
  unfolding content_of first_from
  both = turn (string_row s rs (Some (n, r))) q e

  pub string_here : {g : Range} → x ≡ Some g → Some (j, g) ≡ first
  string_here {g} a = both.0 g a

  pub string_later : x ≡ None → first ≡ first_from s rs (j + 1) ds
  string_later a = both.1 a

-- ---- a loop over the displays of a chapter

-- It has come to display n: these are left, and what is sought is the first of them with a set string.
pub record Ahead (s t : List ℕ) (rows chapter n : ℕ) (ds : List (Option (ℕ × Row))) : Type 0 where
  pub few : n + length ds ≤ rows
  pub known : All (λ m r. m < rows) ds
  pub sought : first_string s (rows_of t rows) chapter ≡ first_from s (rows_of t rows) n ds

pub at_first : {s t : List ℕ} {rows n : ℕ} {b : Below} {ds : List (Option (ℕ × Row))} → Stands s t rows b → n ≡ 0
    → ds ≡ children b.parent 0x80 Master (rows_in t b) → Ahead s t rows b.parent n ds
unfolding first_string
at_first {s} {t} {rows} {n} {b} {ds} h z e =
    let all = children b.parent 0x80 Master (rows_in t b) in
    let rs = rows_of t rows in
    let few = as_many t b 0x80 Master in
    let up = length_rows_of (drop (b.parent * width) t) (b.end - b.parent) in
    rw (z, e) (record {
      few = omega (arith, few, h.below.held);
      known =
          all_if (λ m r. m < rows) (λ m r l. omega (arith, l, up, h.below.some, h.below.held)) all
          (all_before b.parent 0x80 Master (rows_in t b));
      sought = ap (λ (x : List Row). first_from s rs 0 (children b.parent 0x80 Master x)) (sym h.below.are);
    })

module _ {s t : List ℕ} {rows chapter n : ℕ} {ds : List (Option (ℕ × Row))} (a : Ahead s t rows chapter n ds) where
  pub at_end : ds ≡ [] → None ≡ first_string s (rows_of t rows) chapter
  unfolding first_from
  at_end e = sym (a.sought ∙ ap (first_from s (rows_of t rows) n) e)

  module _ {m : ℕ} {r : Row} {left : List (Option (ℕ × Row))} (e : ds ≡ Some (m, r) ∷ left) where
    pub is_row : m < rows
    is_row = (rw e at a.known).0 m r refl

    here : first_string s (rows_of t rows) chapter ≡ first_from s (rows_of t rows) n (Some (m, r) ∷ left)
    here = a.sought ∙ ap (first_from s (rows_of t rows) n) e

    module _ {x : Option Range} (q : content_told x ≡ string_of s (rows_of t rows) m) where
      pub found : {g : Range} {k : ℕ} → x ≡ Some g → k ≡ n → Some (k, g) ≡ first_string s (rows_of t rows) chapter
      found {g} w i = ap (λ (j : ℕ). Some (j, g)) i ∙ string_here s (rows_of t rows) n m r left here q w

      pub goes_on : {k : ℕ} → x ≡ None → k ≡ n + 1 → Ahead s t rows chapter k left
      goes_on w i =
          let l = ap length e in
          rw i (record {
            few = omega (arith, a.few, l);
            known = (rw e at a.known).1;
            sought = string_later s (rows_of t rows) n m r left here q w;
          })

-- ---- by the strings of the displays

-- The first of values that is set, counted from number `from` on.
data FirstSet (v : ℕ → FieldValue) (from : ℕ) : Option (ℕ × Range) → Type 0 where
  none : ((m : ℕ) → v m ≡ unset) → FirstSet v from None
  some :
      (k j : ℕ) (g : Range) → k ≡ from + j → v j ≡ content_told (Some g) → ((m : ℕ) → m < j → v m ≡ unset)
      → FirstSet v from (Some (k, g))

module _ (s : List ℕ) (rs : List Row) where
  abbrev strings : List (Option (ℕ × Row)) → ℕ → FieldValue
  strings ds m = content_in (string_row s rs (nth_of m ds))

  module _ (d : Option (ℕ × Row)) (ds : List (Option (ℕ × Row))) (from : ℕ) where
    sooner : (P : ℕ → Type 0) → string_row s rs d ≡ None → ((m : ℕ) → P m → strings ds m ≡ unset)
        → (m : ℕ) → ((i : ℕ) → m ≡ suc i → P i) → strings (d ∷ ds) m ≡ unset
    unfolding nth_of
    sooner P q f zero p = ap content_in q
    sooner P q f (suc m) p = f m (p m refl)

    set_first : (c : Option (ℕ × Row)) → string_row s rs d ≡ c → (r : Option (ℕ × Range)) → FirstSet (strings ds) (from + 1) r
        → FirstSet (strings (d ∷ ds)) from (or_later s rs from c r)
    unfolding nth_of
    set_first (Some (m, x)) q r f =
        some from 0 (range_in x) (omega arith) (ap content_in q) (λ m l. absurd (omega arith))
    set_first None q _ (none f) = none (λ m. sooner (λ i. Unit) q (λ i u. f i) m (λ i e. tt))
    set_first None q _ (some k j g e p f) =
        some k (suc j) g (omega arith) p (λ m l. sooner (λ i. i < j) q f m (λ i a. omega arith))

  first_set : (ds : List (Option (ℕ × Row))) (from : ℕ) → FirstSet (strings ds) from (first_from s rs from ds)
  unfolding first_from nth_of
  first_set [] from = none (λ m. refl)
  first_set (d ∷ ds) from = set_first d ds from (string_row s rs d) refl _ (first_set ds (from + 1))

-- What is the first of values is the first of the strings that they tell.
told_first : (v : ℕ → FieldValue) (told : ℕ → Option Range) → ((m : ℕ) → content_told (told m) ≡ v m) → (f : Option (ℕ × Range))
    → FirstSet v 0 f → First told f
told_first v told w _ (none u) =
    record {
      at = λ j g. ((λ e. let z : ◌≡◌ {A = ℕ} 0 1 = cc in absurd (omega arith)), (λ e. cc (w j, u j, e.0)));
      none = ((λ e j. content_once (told j) None (w j ∙ u j)), (λ e. refl));
    }
told_first v told w _ (some k i h p q u) =
    record {
      at = λ j g. (there j g, back j g);
      none = ((λ e j. cc), (λ e. cc (w i, q, e i)));
    }
  where
    there : (j : ℕ) (g : Range) → ◌≡◌ {A = Option (ℕ × Range)} (Some (k, h)) (Some (j, g)) → (told j ≡ Some g) × ((m : ℕ) → m < j → told m ≡ None)
    there j g e =
        let (a, c) = some_halves e in
        let b : i ≡ j = omega (arith, a) in (
          content_once (told j) (Some g) (w j ∙ ap v (sym b) ∙ q ∙ ap (λ (x : Range). content_told (Some x)) c),
          λ m l. content_once (told m) None (w m ∙ u m (omega arith)),
        )

    back : (j : ℕ) (g : Range) → (told j ≡ Some g) × ((m : ℕ) → m < j → told m ≡ None)
        → ◌≡◌ {A = Option (ℕ × Range)} (Some (k, h)) (Some (j, g))
    back j g e =
        either i j (λ l. cc (w i, q, e.1 i l))
        (λ l. either j i (λ o. cc (w j, u j o, e.0))
        (λ o.
        let a : k ≡ j = omega arith in
        let b : j ≡ i = omega arith in
        let c = content_once (Some h) (Some g) (sym q ∙ ap v (sym b) ∙ sym (w j) ∙ ap content_told e.0) in
        cc (a, c)))

module _ (s : List ℕ) (rs : List Row) where
  told_string : (r : Result (ChapterDisplay × ℕ) Refusal) (c : Option (ℕ × Row))
      → display_told r ≡ answer_of (of_below (display_of s)) (settled rs (spot_of c))
      → content_told (string_told r) ≡ content_in (string_row s rs c)
  unfolding display_of content_of
  told_string (Ok (d, n)) None q = cc
  told_string (Ok (d, n)) (Some (m, x)) q = cc
  told_string (Err e) None q = refl
  told_string (Err e) (Some (m, x)) q = cc

pub first_of_displays : FirstOfDisplays
unfolding first_string
first_of_displays live s start size k i t replies tables p rs chapter a =
    let ds = children chapter 0x80 Master (subtree rs chapter) in
    told_first (strings s rs ds) (λ j. string_told (replies j))
    (λ j.
    told_string s rs (replies j) (nth_of j ds)
    ((p j).reply
    ∙ ap (answer_of (of_below (display_of s)))
    (further (Nth 0x45B9 k) (Nth 0xB6 i) (Nth 0x80 j) live s start size 0x45B9 (length t) rs chapter a)))
    _ (first_set s rs ds 0)
