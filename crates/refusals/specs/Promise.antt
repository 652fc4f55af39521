-- What the public calls `Cause::number` and `Cause::id` promise.
use Rattle.std.specs.Prelude.{ℕ, ◌≡◌}
use Rattle.refusals.specs.Causes.{cause_number, cause_id}
use Rattle.refusals.specs.declared.refusal.Cause.{Cause}

abbrev pub NumberPromise : Cause → ℕ → Type 0
NumberPromise cause r = r ≡ cause_number cause

abbrev pub IdPromise : Cause → ℕ → Type 0
IdPromise cause r = r ≡ cause_id cause
