-- What `map_err` makes of an answer: an Ok as it is, and another Err, by its closure. Assumes nothing.
use mathlib.Core.Path.{◌≡◌, refl, sym, ap, ◌∙◌, subst}
use Rattle.std.proofs.Common.{Result, Ok, Err}
use Rattle.std.proofs.lemmas.Result.{err_from_is_err_and}
use Rattle.std.specs.Result.{MatchResult, IsErrAnd}

module _ {T E D : Type 0} (F : E → D → Type 0) where
  abbrev Mapped : Result T E → Result T D → Type 0
  Mapped r q = MatchResult r (λ x. q ≡ Ok x) (λ e. IsErrAnd q (F e))

  pub mapped_ok : (r : Result T E) (q : Result T D) → Mapped r q → (x : T) → q ≡ Ok x → r ≡ Ok x
  mapped_ok (Ok y) q m x w =
      let k : ◌≡◌ {A = Result T D} (Ok y) (Ok x) = sym m ∙ w in
      let same : y ≡ x = cc in
      ap Ok same
  mapped_ok (Err e) q m x w = let p = err_from_is_err_and q m in absurd (cc)

  pub mapped_err : (r : Result T E) (q : Result T D) → Mapped r q → (d : D) → q ≡ Err d → (e : E) × (r ≡ Err e) × F e d
  mapped_err (Ok y) q m d w = absurd (cc)
  mapped_err (Err e) q m d w =
      let p = err_from_is_err_and q m in
      let same : p.0 ≡ d = cc in
      (e, refl, subst (F e) same p.2)
