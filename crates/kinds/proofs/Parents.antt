-- What a parent makes of a kind by the list. Assumes nothing.
use mathlib.Core.Path.{◌≡◌, sym, ◌∙◌}
use mathlib.Core.Bool.{true, false}
use Prim.Native.Nat.{ℕ}
use Rattle.kinds.specs.Elements.{elements}
use Rattle.kinds.specs.Kinds.{number_of, kind_in, kind_under, stays_master, demoted}
use Rattle.kinds.specs.Promise.{KindPromise}
use Rattle.kinds.specs.declared.kind.Kind.{Kind}
use Rattle.kinds.specs.declared.kind.Kind.TheVariants.{Master, Binary}
use Rattle.kinds.proofs.Numbers.{number_tells, others_stay, either}

module _ (id parent : ℕ) (k : Kind) (listed : k ≡ kind_in elements id) where
  -- Under any parent a kind other than master stays.
  pub under_other : (number_of k ≡ 1 → ⊥) → KindPromise id parent k
  unfolding kind_under
  under_other other =
      record { reply = rw (sym listed, others_stay k other, either (stays_master id parent) k) }

  master : number_of k ≡ 1 → kind_in elements id ≡ Master
  master e = sym listed ∙ number_tells k Master e

  -- So does any where the parent's set has the id.
  pub under_kept : stays_master id parent ≡ true → KindPromise id parent k
  unfolding kind_under
  under_kept kept = record { reply = rw (kept, listed) }

  -- A master that it lacks is binary.
  pub under_lost : number_of k ≡ 1 → stays_master id parent ≡ false → KindPromise id parent Binary
  unfolding kind_under demoted
  under_lost e lost = record { reply = rw (lost, master e) }
