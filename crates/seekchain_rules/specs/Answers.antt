-- What follows elements that were read: a refusal ends the search.
use Rattle.refusals.specs.declared.refusal.Refusal.{Refusal}
use Rattle.elements_rules.specs.Forest.{Forest}
use Rattle.elements_rules.specs.Reading.{Outcome, done, refused}

abbrev pub on_outcome : {A : Type 0} → Outcome → (Refusal → A) → (Forest → A) → A
on_outcome (done f) stop next = next f
on_outcome (refused e) stop next = stop e
