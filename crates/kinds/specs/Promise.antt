-- What the public call `kind_of` promises of its reply.
use Rattle.std.specs.Prelude.{ℕ, ◌≡◌}
use Rattle.kinds.specs.Kinds.{number_of, kind_under}
use Rattle.kinds.specs.declared.kind.Kind.{Kind}

-- Document 01's number of the reply is that of the id's kind under the parent.
pub record KindPromise (id parent : ℕ) (r : Kind) : Type 0 where
  pub reply : number_of r ≡ number_of (kind_under id parent)
