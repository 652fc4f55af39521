-- Numerals digit by digit, from the last to the first, as `spell` writes them. Assumes nothing.
use Prim.Native.Nat.{ℕ, zero, suc, ◌-◌, ◌*◌, ◌/◌, ◌%◌, ◌^◌, ◌≤◌, ◌<◌}
use mathlib.Core.Path.{◌≡◌, sym, ap, ◌∙◌}
use mathlib.Core.Bool.{Bool, true, false, cond}
use mathlib.Core.List.{List, [], ◌∷◌, ◌++◌, append-nil}
use native.Mathlib.Omega.{arith}
use native.Mathlib.Nat.{pow-suc, pow-zero, div-lt_iff_lt-mul, one-mul}
use lib.ListN.{length, take, drop, set, length-append, length-set}
use lib.Seq.{append_snoc, set_split, drop_at, drop-length, length-take-le}
use lib.Dec.{ltb}
use borrow.Author.Tests.{lt-ltb, le-ltb}
use Rattle.pages.specs.Text.{glyph, numeral}

-- A store is the first of what stands from its place on.
drop_set : (l : List ℕ) (j a : ℕ) → j < length l → drop j (set l j a) ≡ a ∷ drop (suc j) l
drop_set l j a h =
    ap (drop j) (set_split l j a h) ∙ drop_at (take j l) (a ∷ drop (suc j) l) j (length-take-le j l (omega arith))

-- What holds while digits are written from the end of a text of 20 bytes on: the numeral is that of what is left, and
-- then the digits that are there.
pub record Spelling (base value : ℕ) (text : List ℕ) (first rest : ℕ) : Type 0 where
  pub long : length text ≡ 20
  pub some : 0 < first
  pub few : first ≤ 20
  pub fits : rest < base ^ first
  pub same : numeral base 20 value ≡ numeral base first rest ++ drop first text

module _ (base : ℕ) (two : 1 < base) where
  -- One digit more in front of those that are there, and the quotient is left.
  pub one_more :
      (j rest : ℕ) (text : List ℕ) → base ≤ rest → j < length text
      → numeral base (suc j) rest ++ drop (suc j) text
      ≡ numeral base j (rest / base) ++ drop j (set text j (glyph (rest % base)))
  unfolding numeral
  one_more j rest text g l =
      rw (le-ltb rest base g)
      (append_snoc (numeral base j (rest / base)) (glyph (rest % base)) (drop (suc j) text)
      ∙ ap (λ (x : List ℕ). numeral base j (rest / base) ++ x) (sym (drop_set text j (glyph (rest % base)) l)))

  -- The first digit.
  pub first_digit :
      (j rest : ℕ) (text : List ℕ) → rest < base → j < length text
      → numeral base (suc j) rest ++ drop (suc j) text ≡ drop j (set text j (glyph rest))
  unfolding numeral
  first_digit j rest text g l = rw (lt-ltb rest base g) (sym (drop_set text j (glyph rest) l))

  -- The quotient needs one digit less, and there is one more to come.
  pub quotient_fits : (j rest : ℕ) → rest < base ^ suc j → rest / base < base ^ j
  quotient_fits j rest l =
      let e = pow-suc base j in
      (div-lt_iff_lt-mul {k = base} {x = rest} {y = base ^ j} (omega arith)).1 (omega arith)

  pub more_to_come : (j rest : ℕ) → base ≤ rest → rest < base ^ suc j → 0 < j
  more_to_come zero rest g l =
      let e = pow-suc base 0 in
      let z = pow-zero base in
      let o : base ^ 0 * base ≡ base = ap (λ (x : ℕ). x * base) z ∙ one-mul base in
      absurd (omega arith)
  more_to_come (suc j) rest g l = omega arith

  pub spelling_starts : (value : ℕ) (text : List ℕ) → length text ≡ 20 → value < base ^ 20 → Spelling base
      value text 20 value
  spelling_starts value text l v =
      record {
        long = l;
        some = omega arith;
        few = omega arith;
        fits = v;
        same =
            sym (ap (λ (x : List ℕ). numeral base 20 value ++ x)
            (ap (λ (x : ℕ). drop x text) (sym l) ∙ drop-length text)
            ∙ append-nil (numeral base 20 value));
      }

  pub spelling_goes_on :
      (value : ℕ) (text : List ℕ) (first rest g : ℕ) → base ≤ rest → g ≡ glyph (rest % base)
      → Spelling base value text first rest → Spelling base value (set text (first - 1) g) (first - 1) (rest / base)
  spelling_goes_on value text zero rest g l e i = let z = i.some in absurd (omega arith)
  spelling_goes_on value text (suc j) rest g l e i =
      let h = i.few in
      let k = i.long in
      let d : suc j - 1 ≡ j = omega arith in
      rw (e, d)
      (record {
        long = length-set text j (glyph (rest % base)) ∙ k;
        some = more_to_come j rest l i.fits;
        few = omega arith;
        fits = quotient_fits j rest i.fits;
        same = i.same ∙ one_more j rest text l (omega arith);
      })

  pub spelling_ends :
      (value : ℕ) (text : List ℕ) (first rest g : ℕ) → rest < base → g ≡ glyph rest
      → Spelling base value text first rest → drop (first - 1) (set text (first - 1) g) ≡ numeral base 20 value
  spelling_ends value text zero rest g l e i = let z = i.some in absurd (omega arith)
  spelling_ends value text (suc j) rest g l e i =
      let h = i.few in
      let k = i.long in
      let d : suc j - 1 ≡ j = omega arith in
      rw (e, d) (sym (i.same ∙ first_digit j rest text l (omega arith)))

-- No numeral has more digits than it may.
pub digits_most : (base most n : ℕ) → length (numeral base most n) ≤ most
unfolding numeral
digits_most base zero n = omega arith
digits_most base (suc most) n = go (digits_most base most (n / base)) (ltb n base)
  where
    go : length (numeral base most (n / base)) ≤ most → (b : Bool)
        → length (cond b (glyph n ∷ []) (numeral base most (n / base) ++ glyph (n % base) ∷ [])) ≤ suc most
    go l true = omega arith
    go l false = omega (arith, length-append (numeral base most (n / base)) (glyph (n % base) ∷ []))
