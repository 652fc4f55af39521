-- Texts written one behind the other into a page are one text. Assumes nothing.
use Prim.Native.Nat.{ℕ, ◌+◌, ◌-◌, ◌≤◌}
use mathlib.Core.Path.{◌≡◌, refl, sym, ap, ◌∙◌}
use mathlib.Core.List.{List, [], ◌++◌, append_assoc, append-nil}
use native.Mathlib.Omega.{arith}
use native.Mathlib.Nat.{add-zero}
use lib.ListN.{length, take, drop, length-append, length-drop, take-append-drop}
use lib.Seq.{take_all, take_at, drop-append-add, drop-drop}
use lib.Seq.{length-take-le}
use Rattle.pages.specs.Text.{numeral}
use Rattle.pages.specs.Page.{written, Wrote, room, Grew}
use Rattle.pages.specs.declared.page.Page.{Page}
use Rattle.pages.proofs.Numerals.{digits_most}

-- Nothing is a text too.
pub wrote_none : (page : List ℕ) (held : ℕ) → Wrote page held [] held page
wrote_none page held =
    record {
      ends = sym (add-zero held);
      says =
          sym (ap (λ (x : List ℕ). x ++ drop (held + 0) page) (append-nil (take held page))
          ∙ ap (λ (x : ℕ). take held page ++ drop x page) (add-zero held)
          ∙ take-append-drop held page);
      long = refl;
    }

module _ (page : List ℕ) (held : ℕ) (a b : List ℕ) (room : held + length a + length b ≤ length page) where
  front : List ℕ
  front = take held page ++ a

  front_long : length front ≡ held + length a
  unfolding front
  front_long = length-append (take held page) a ∙ ap (λ (x : ℕ). x + length a) (length-take-le held page (omega
      arith))

  pub written_twice : written (written page held a) (held + length a) b ≡ written page held (a ++ b)
  unfolding front
  written_twice =
      let rest = drop (held + length a) page in
      let t : take (held + length a) (front ++ rest) ≡ front = take_at front rest (held + length a) front_long in
      let e : held + length a + length b ≡ length front + length b = ap (λ (x : ℕ). x + length b) (sym
      front_long) in
      let f : held + length a + length b ≡ held + length (a ++ b) = omega (arith, length-append a b) in
      let d : drop (held + length a + length b) (front ++ rest) ≡ drop (held + length (a ++ b)) page
      = ap (λ (x : ℕ). drop x (front ++ rest)) e ∙ drop-append-add front rest (length b)
      ∙ drop-drop (length b) (held + length a) page
      ∙ ap (λ (x : ℕ). drop x page) f in
      ap (λ (x : List ℕ). x ++ b ++ drop (held + length a + length b) (front ++ rest)) t
      ∙ ap (λ (x : List ℕ). front ++ b ++ x) d
      ∙ ap (λ (x : List ℕ). x ++ drop (held + length (a ++ b)) page) (append_assoc (take held page) a b)

-- A text behind a text.
pub then :
    (page : List ℕ) (held : ℕ) (a : List ℕ) (r : ℕ) (page' b : List ℕ) (r' : ℕ) (page'' : List ℕ)
    → Wrote page held a r page' → Wrote page' r b r' page'' → r' ≤ length page → Wrote page held (a ++ b) r' page''
then page held a r page' b r' page'' v w room =
    let e : r' ≡ held + length a + length b = w.ends ∙ ap (λ (x : ℕ). x + length b) v.ends in
    record {
      ends = e ∙ (omega (arith, length-append a b));
      says =
          w.says ∙ ap (λ (x : List ℕ). written x r b) v.says
          ∙ ap (λ (x : ℕ). written (written page held a) x b) v.ends
          ∙ written_twice page held a b (omega arith);
      long = w.long ∙ v.long;
    }

-- A labelled text behind a text.
pub then_labelled :
    (page : List ℕ) (held : ℕ) (a : List ℕ) (r : ℕ) (page' label b : List ℕ) (r' : ℕ) (page'' : List ℕ)
    → Wrote page held a r page' → Wrote page' r (label ++ b) r' page'' → r' ≤ length page
    → Wrote page held (a ++ label ++ b) r' page''
then_labelled page held a r page' label b r' page'' v w room =
    rw (append_assoc a label b) (then page held a r page' (label ++ b) r' page'' v w room)

-- The same of a page that grew twice.
pub grew_twice :
    (p : Page) (a : List ℕ) (q : Page) (b : List ℕ) (r : Page) → Grew p a q → Grew q b r → r.held ≤ room p
    → Grew p (a ++ b) r
grew_twice p a q b r v w h = (then _ _ _ _ _ _ _ _ v.0 w.0 h, w.1 ∙ v.1)

pub grew_labelled :
    (p : Page) (a : List ℕ) (q : Page) (label b : List ℕ) (r : Page) → Grew p a q → Grew q (label ++ b) r
    → r.held ≤ room p → Grew p (a ++ label ++ b) r
grew_labelled p a q label b r v w h = (then_labelled _ _ _ _ _ label b _ _ v.0 w.0 h, w.1 ∙ v.1)

-- The end of a text, from a place on, is all that stands there.
pub whole_end :
    (text : List ℕ) (first : ℕ) → length text ≡ 20 → take (20 - first) (drop first text) ≡ drop first text
whole_end text first l =
    let d = length-drop first text in
    take_all (20 - first) (drop first text) (omega arith)

-- A number behind its label, of at most 20 digits.
pub labelled_number :
    (page : List ℕ) (held : ℕ) (label : List ℕ) (r : ℕ) (page' digits : List ℕ) (r' : ℕ) (page'' : List ℕ)
    (base value : ℕ) → held + length label + 20 ≤ length page
    → Wrote page held label r page' → Wrote page' r digits r' page'' → digits ≡ numeral base 20 value
    → Wrote page held (label ++ numeral base 20 value) r' page'' × (r' ≤ held + length label + 20)
labelled_number page held label r page' digits r' page'' base value room v w d =
    let m = digits_most base 20 value in
    let e : r' ≡ held + length label + length (numeral base 20 value)
    = w.ends ∙ ap (λ (x : List ℕ). r + length x) d ∙ ap (λ (x : ℕ). x + length (numeral base 20 value))
    v.ends in
    (then page held label r page' (numeral base 20 value) r' page'' v (rw d at w) (omega arith), omega arith)
