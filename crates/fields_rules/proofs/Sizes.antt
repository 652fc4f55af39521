-- The sizes that a sound row's body has by its kind. Assumes nothing.
use Prim.Native.Nat.{ℕ, ◌+◌, ◌≤◌}
use mathlib.Core.Path.{◌≡◌, refl, ap, ◌∙◌, subst}
use mathlib.Core.List.{List}
use mathlib.Core.Bool.{Bool, true, false, cond, not, ◌||◌}
use mathlib.Core.Logic.{◌⊎◌, inl, inr}
use lib.Dec.{leb, eqb}
use borrow.Author.Tests.{leb-true, eqb-true}
use Rattle.refusals.specs.declared.refusal.Cause.{Cause}
use Rattle.kinds.specs.Kinds.{number_of, kind_numbered}
use Rattle.kinds.specs.declared.kind.Kind.{Kind}
use Rattle.kinds.specs.declared.kind.Kind.TheVariants.{Uint, Float, Date}
use Rattle.kinds.proofs.Numbers.{kind_back}
use Rattle.bodies_rules.specs.Bodies.{Told, refused, body_of}
use Rattle.elements_rules.specs.Stands.{IsValue}
use Rattle.elements_rules.specs.declared.row.Row.{Row}
use Rattle.fields_rules.specs.Contract.{Holds}

module _ (s : List ℕ) (r : Row) where
  value_of : (kind : Kind) → not (eqb (number_of kind) 1) ≡ true → Holds s kind r
      → IsValue (body_of s (r.address + r.header) r.payload kind)
  value_of kind q h =
      subst (λ (k : Kind). IsValue (body_of s (r.address + r.header) r.payload k))
      (ap kind_numbered h.is ∙ kind_back kind)
      (h.sound.value (ap (λ (n : ℕ). not (eqb n 1)) h.is ∙ q))

  -- A value passes the test of its size.
  tested : (b : Bool) (told : Told) (cause : Cause) → IsValue (cond b told (refused cause)) → b ≡ true
  tested true told cause v = refl
  tested false told cause v = absurd v

  pub uint_size : Holds s Uint r → r.payload ≤ 8
  unfolding body_of
  uint_size h = leb-true r.payload 8 (tested (leb r.payload 8) _ _ (value_of Uint refl h))

  either : (a b : Bool) → (a || b) ≡ true → (a ≡ true) ⊎ (b ≡ true)
  either true b e = inl refl
  either false b e = inr e

  pub float_size : Holds s Float r → (r.payload ≡ 4) ⊎ (r.payload ≡ 8)
  unfolding body_of
  float_size h =
      go (either (eqb r.payload 4) (eqb r.payload 8)
      (tested (eqb r.payload 4 || eqb r.payload 8) _ _ (value_of Float refl h)))
    where
      go : (eqb r.payload 4 ≡ true) ⊎ (eqb r.payload 8 ≡ true) → (r.payload ≡ 4) ⊎ (r.payload ≡ 8)
      go (inl e) = inl (eqb-true r.payload 4 e)
      go (inr e) = inr (eqb-true r.payload 8 e)

  pub date_size : Holds s Date r → r.payload ≡ 8
  unfolding body_of
  date_size h = eqb-true r.payload 8 (tested (eqb r.payload 8) _ _ (value_of Date refl h))
