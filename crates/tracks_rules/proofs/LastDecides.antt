-- The last Video or Audio below an entry decides on its settings (`LastDecides`). Assumes nothing.
use Prim.Native.Nat.{ℕ, ◌+◌}
use mathlib.Core.Path.{◌≡◌, refl, sym}
use mathlib.Core.List.{List}
use mathlib.Core.Bool.{Bool, true, false}
use native.Mathlib.Omega.{arith}
use borrow.Author.Tests.{ltb-true, ltb-false}
use lib.Dec.{ltb}
use Rattle.kinds.specs.declared.kind.Kind.TheVariants.{Master}
use Rattle.elements_rules.specs.declared.row.Row.{Row}
use Rattle.fields_rules.specs.Theorems.{Last, none, last}
use Rattle.fields_rules.proofs.LastOnes.{last_is_last}
use Rattle.tracks_rules.specs.Settings.{decided}
use Rattle.tracks_rules.specs.Theorems.{Decides, none as none_decides, video, audio, LastDecides}
use Rattle.tracks_rules.proofs.Decided.{decided_by, audio_later, video_later}
use Rattle.std.proofs.Common.{Option, Some, None}

module _ (parent : ℕ) (below : List Row) where
  either : (v a : Option (ℕ × Row)) → Last parent 0xE0 Master below v → Last parent 0xE1 Master below a
      → Decides parent below (decided v a)
  either v a (none p no_video) (none q no_audio) =
      none_decides (sym (decided_by v None a None p q)) (λ m l b. (no_video m b, no_audio m b))
  either v a (last k l f p after) (none q no_audio) =
      video k l f (sym (decided_by v (Some (parent + k, _)) a None p q))
      (λ m g b. (after m (omega (arith, g)) b, no_audio m b))
  either v a (none p no_video) (last j l f q after) =
      audio j l f (sym (decided_by v None a (Some (parent + j, _)) p q))
      (λ m g b. (no_video m b, after m (omega (arith, g)) b))
  either v a (last k l f p after) (last j o g q behind) =
      go (ltb (parent + k) (parent + j)) refl
    where
      go : (b : Bool) → ltb (parent + k) (parent + j) ≡ b → Decides parent below (decided v a)
      go true e =
          let n = ltb-true (parent + k) (parent + j) e in
          audio j o g (sym (audio_later p q n))
          (λ m h b. (after m (omega (arith, h, n)) b, behind m (omega (arith, h)) b))
      go false e =
          let n = ltb-false (parent + k) (parent + j) e in
          video k l f (sym (video_later p q n))
          (λ m h b. (after m (omega (arith, h)) b, behind m (omega (arith, h, n)) b))

pub last_decides : LastDecides
last_decides parent below =
    either parent below _ _ (last_is_last parent 0xE0 Master below) (last_is_last parent 0xE1 Master below)
