-- Every address in a record is the payload's place of a row of the table (`MediaAddressed`); the settings of a track
-- name none. Assumes nothing.
use Prim.Native.Nat.{ℕ, ◌≤◌}
use mathlib.Core.List.{List}
use mathlib.Core.Bool.{Bool, true, false, cond}
use lib.ListN.{length}
use lib.Dec.{ltb, eqb}
use Rattle.kinds.specs.declared.kind.Kind.TheVariants.{Uint}
use Rattle.elements_rules.specs.declared.row.Row.{Row}
use Rattle.fields_rules.specs.Children.{subtree}
use Rattle.fields_rules.specs.Values.{FieldValue, unset, number, flag}
use Rattle.fields_rules.specs.Fields.{last_child}
use Rattle.locate_rules.specs.Theorems.{Placed, AllPlaced}
use Rattle.locate_rules.proofs.Addressed.{numbers, reals, asked_addressed}
use Rattle.media_rules.specs.Said.{said_in, said_of}
use Rattle.codes.specs.Stereo.{modes}
use Rattle.media_rules.specs.Video.{interlaced, stereo}
use Rattle.media_rules.specs.Records.{audio_of, video_of}
use Rattle.media_rules.specs.Theorems.{MediaAddressed}
use Rattle.std.proofs.Common.{Option, Some, None}

-- What a number says is placed, if it is so for each number.
pub said_placed : (rs : List Row) (says : ℕ → FieldValue) → ((n : ℕ) → Placed rs (says n))
    → (s : List ℕ) (parent : ℕ) (below : List Row) (id : ℕ) → Placed rs (said_of says s parent below id)
unfolding said_of
said_placed rs says p s parent below id = go (last_child s parent below id Uint)
  where
    go : (c : Option (ℕ × Row)) → Placed rs (said_in says s c)
    go None = tt
    go (Some (n, r)) = p _

one_placed : (rs : List Row) (b : Bool) (v w : FieldValue) → Placed rs v → Placed rs w → Placed rs (cond b v w)
one_placed rs true v w p q = p
one_placed rs false v w p q = q

interlaced_placed : (rs : List Row) (n : ℕ) → Placed rs (interlaced n)
interlaced_placed rs n =
    one_placed rs (eqb n 1) (flag true) _ tt (one_placed rs (eqb n 2) (flag false) unset tt tt)

stereo_placed : (rs : List Row) (n : ℕ) → Placed rs (stereo n)
unfolding stereo
stereo_placed rs n = one_placed rs (ltb n modes) (number n) unset tt tt

module _ (s : List ℕ) (rs : List Row) (parent : ℕ) (l : parent ≤ length rs) where
  pub audio_placed : AllPlaced rs (audio_of s parent (subtree rs parent))
  unfolding audio_of AllPlaced
  audio_placed =
      let number = numbers s rs parent l in
      let real = reals s rs parent l in
      (real _, (number _, (number _, tt)))

  pub video_placed : AllPlaced rs (video_of s parent (subtree rs parent))
  unfolding video_of AllPlaced
  video_placed =
      let number = numbers s rs parent l in
      let interlaced = said_placed rs interlaced (interlaced_placed rs) s parent (subtree rs parent) _ in
      let stereo = said_placed rs stereo (stereo_placed rs) s parent (subtree rs parent) _ in
      let gamma = reals s rs parent l _ in
      (number _, (number _, (number _, (number _, (interlaced, (stereo, (gamma, tt)))))))

pub media_addressed : MediaAddressed
media_addressed =
    record {
      audio = λ live s start size k. asked_addressed live _ (audio_placed s) s start size _ _;
    }
