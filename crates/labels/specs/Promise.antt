-- What the public call `stage_label` promises.
use Rattle.std.specs.Prelude.{ℕ, ◌≡◌, List}
use Rattle.labels.specs.Labels.{label_of}
use Rattle.std.specs.Prelude.{Option}
use Rattle.bodies_rules.specs.declared.body.Range.{Range}

-- The octets of the part that is handed back.
pub record LabelPromise (s : List ℕ) (string : Option Range) (own part : List ℕ) : Type 0 where
  pub reply : part ≡ label_of s string own
