-- A test whose answer the code turns round: `if !test(..)`. Assumes nothing.
use mathlib.Core.Path.{◌≡◌, sym, ◌∙◌}
use mathlib.Core.Bool.{Bool, true, false, not}
use borrow.Author.Tests.{not-true, not-false}

module _ (test answer : Bool) (e : answer ≡ test) where
  pub failed : not answer ≡ true → test ≡ false
  failed h = sym e ∙ not-true answer h

  pub passed : not answer ≡ false → test ≡ true
  passed h = sym e ∙ not-false answer h
