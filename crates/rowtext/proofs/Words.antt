-- The words for the kinds, as `put_kind` cuts them out of one text. Assumes nothing.
use Prim.Native.Nat.{ℕ, ◌+◌, ◌-◌, ◌≤◌}
use mathlib.Core.Path.{◌≡◌, refl}
use Rattle.std.proofs.Common.{◌≢◌}
use mathlib.Core.Bool.{Bool, true, false, ◌&&◌}
use mathlib.Core.List.{List, [], ◌++◌}
use native.Mathlib.Omega.{arith}
use lib.ListN.{length, take, drop}
use lib.Dec.{leb}
use borrow.Author.Tests.{leb-true, ne_eqb}
use Rattle.pages.specs.Text.{ascii}
use Rattle.pages.specs.Page.{Wrote}
use Rattle.rowtext.specs.Cuts.{Cuts, kind_words}
use Rattle.rowtext.specs.Lines.{kind_word}
use Rattle.rowtext.specs.declared.row.Cut.{Cut}

-- Where the word of a kind's number stands, by a test that is computed.
pub cut_is : {kind k from end : ℕ} → kind ≡ k
    → (leb from end && (leb end 46 && (leb end (from + 7) && leb (length (ascii " " ++ kind_word k)) 7))) ≡ true
    → take (end - from) (drop from kind_words) ≡ ascii " " ++ kind_word k
    → Cuts kind (record { from = from; end = end })
cut_is {kind} {k} {from} {end} e t says =
    let (a, u) = both _ _ t in
    let (b, v) = both _ _ u in
    let (c, d) = both _ _ v in
    rw e (record {
      low = leb-true from end a;
      high = leb-true end 46 b;
      few = leb-true end (from + 7) c;
      short = leb-true (length (ascii " " ++ kind_word k)) 7 d;
      says = says;
    })
  where
    both : (a b : Bool) → (a && b) ≡ true → (a ≡ true) × (b ≡ true)
    both true b q = (refl, q)
    both false b q = let z : ◌≡◌ {A = ℕ} 0 1 = cc in absurd (omega arith)

-- A number that is no kind's has no word: the space alone is cut.
pub no_word : (kind : ℕ) → kind_word kind ≡ [] → Cuts kind (record { from = 0; end = 1 })
no_word kind e =
    record {
      low = omega arith;
      high = omega arith;
      few = omega arith;
      short = rw e (omega arith);
      says = rw e refl;
    }

-- What was cut out and put is the word of that kind.
pub put_cut :
    (kind : ℕ) (cut : Cut) (page : List ℕ) (held r : ℕ) (page' : List ℕ) → Cuts kind cut
    → Wrote page held (take (cut.end - cut.from) (drop cut.from kind_words)) r page'
    → Wrote page held (ascii " " ++ kind_word kind) r page' × (r ≤ held + 7)
put_cut kind cut page held r page' k w =
    let v : Wrote page held (ascii " " ++ kind_word kind) r page' = rw k.says at w in
    let e = v.ends in
    let s = k.short in
    (v, omega arith)

-- So says a number that is none of the eight.
pub no_kind :
    (kind : ℕ) → kind ≢ 1 → kind ≢ 2 → kind ≢ 3 → kind ≢ 4 → kind ≢ 5 → kind ≢ 6 → kind ≢ 7 → kind ≢ 8
    → Cuts kind (record { from = 0; end = 1 })
unfolding kind_word
no_kind kind a b c d e f g h = no_word kind none
  where
    none : kind_word kind ≡ []
    none =
        rw (
          ne_eqb _ _ a,
          ne_eqb _ _ b,
          ne_eqb _ _ c,
          ne_eqb _ _ d,
          ne_eqb _ _ e,
          ne_eqb _ _ f,
          ne_eqb _ _ g,
          ne_eqb _ _ h,
        )
        refl
