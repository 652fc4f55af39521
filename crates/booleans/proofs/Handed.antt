-- What a `?` hands on where it leaves with a refusal: the refusal itself. Assumes nothing.
use mathlib.Core.Path.{◌≡◌, ap, ◌∙◌}
use Rattle.std.specs.Result.{IsErrAnd}
use Rattle.std.proofs.Common.{Result, Err}
use Rattle.std.proofs.lemmas.Result.{err_from_is_err_and}

-- A refusal that is known to be this one.
pub handed : {T E : Type 0} {e : E} (r : Result T E) → IsErrAnd r (λ y. y ≡ e) → r ≡ Err e
handed r q = let p = err_from_is_err_and r q in p.1 ∙ ap Err p.2
