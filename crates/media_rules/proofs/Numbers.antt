-- What the numbers of a video track's settings say, one by one. Assumes nothing.
use Prim.Native.Nat.{ℕ, ◌≤◌}
use mathlib.Core.Path.{◌≡◌}
use mathlib.Core.Bool.{true}
use lib.Dec.{ltb}
use borrow.Author.Tests.{ne_eqb, le-ltb}
use Rattle.codes.specs.Stereo.{modes}
use Rattle.fields_rules.specs.Values.{unset, number}
use Rattle.media_rules.specs.Video.{interlaced, stereo}

module _ (n : ℕ) where
  pub is_mode : (k : ℕ) → n ≡ k → ltb k modes ≡ true → number k ≡ stereo n
  unfolding stereo
  is_mode k e l = rw (e, l)

  pub no_mode : modes ≤ n → unset ≡ stereo n
  unfolding stereo
  no_mode l = rw (le-ltb n modes l)

  pub neither : (n ≡ 1 → ⊥) → (n ≡ 2 → ⊥) → unset ≡ interlaced n
  neither a b = rw (ne_eqb n 1 a, ne_eqb n 2 b)
