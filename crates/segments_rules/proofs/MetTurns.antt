-- One turn of the walk to the first child that is met, over plain values. Assumes nothing.
use Prim.Native.Nat.{ℕ, ◌<◌}
use mathlib.Core.Path.{◌≡◌, refl, sym, ap, ◌∙◌}
use mathlib.Core.List.{List}
use mathlib.Core.Bool.{Bool, true, false}
use lib.Dec.{eqb}
use Rattle.refusals.specs.declared.refusal.Refusal.{Refusal}
use Rattle.header.specs.declared.cursor.Headed.{Headed}
use Rattle.walks_rules.specs.Step.{child_at}
use Rattle.walks_rules.specs.Endings.{room_of}
use Rattle.walks_rules.specs.declared.step.Stretch.{Stretch}
use Rattle.seekhead_rules.specs.Seeks.{seek_head_id}
use Rattle.segments_rules.specs.Segment.{stretch_of, aims_at, meets, meeting, met_from}
use Rattle.segments_rules.specs.Contract.{PastIn}
use Rattle.segments_rules.specs.declared.walk.Aim.{Aim}
use Rattle.segments_rules.specs.declared.walk.Met.TheVariants.{Head, Part}
use Rattle.segments_rules.proofs.Meetings.{passed, along_unfolds, less}
use Rattle.std.proofs.Common.{Result, Option, Ok, Err, Some, None}

module _ (live : Bool) (s : List ℕ) (aim : Aim) (segment : Headed) (stretch : Stretch) (from at : ℕ)
    (i : stretch ≡ stretch_of live s segment)
    (g : met_from live s aim segment from ≡ met_from live s aim segment at) where
  steps : (x : Result (Option Headed) Refusal) → child_at live s stretch at ≡ x → child_at live s (stretch_of live s segment) at ≡ x
  steps x q = ap (λ (y : Stretch). child_at live s y at) (sym i) ∙ q

  passes : (e : Headed) (y x : Result ℕ Refusal) → PastIn live s stretch e y → y ≡ x → passed live s segment e ≡ x
  passes e y x m q = sym (m segment i) ∙ q

  pub turn_refused : (r : Refusal) → child_at live s stretch at ≡ Err r → Err r ≡ met_from live s aim segment from
  turn_refused r q = rw (g, along_unfolds live s segment (meeting aim) at tt, steps (Err r) q) refl

  pub turn_ended : child_at live s stretch at ≡ (Ok None) → (Ok None) ≡ met_from live s aim segment from
  turn_ended q = rw (g, along_unfolds live s segment (meeting aim) at tt, steps (Ok None) q) refl

  module _ (e : Headed) (q : child_at live s stretch at ≡ Ok (Some e)) where
    pub turn_head : eqb e.header.id seek_head_id ≡ true → Ok (Some (Head e)) ≡ met_from live s aim segment from
    unfolding meets
    turn_head h = rw (g, along_unfolds live s segment (meeting aim) at tt, steps (Ok (Some e)) q, h) refl

    module _ (h : eqb e.header.id seek_head_id ≡ false) where
      pub turn_part : aims_at aim e.header.id ≡ true → Ok (Some (Part e)) ≡ met_from live s aim segment from
      unfolding meets
      turn_part o = rw (g, along_unfolds live s segment (meeting aim) at tt, steps (Ok (Some e)) q, h, o) refl

      module _ (o : aims_at aim e.header.id ≡ false) where
        pub turn_lost : (y : Result ℕ Refusal) → PastIn live s stretch e y → (r : Refusal) → y ≡ Err r
            → Err r ≡ met_from live s aim segment from
        unfolding meets
        turn_lost y m r p =
            rw (
              g,
              along_unfolds live s segment (meeting aim) at tt,
              steps (Ok (Some e)) q,
              h,
              o,
              passes e y (Err r) m p,
            )
            refl

        pub turn_again : (y : Result ℕ Refusal) → PastIn live s stretch e y → (next : ℕ) → y ≡ Ok next
            → met_from live s aim segment from ≡ met_from live s aim segment next
        unfolding meets
        turn_again y m next p =
            g ∙ along_unfolds live s segment (meeting aim) at tt
            ∙ rw (steps (Ok (Some e)) q, h, o, passes e y (Ok next) m p) refl

    pub turn_less : (y : Result ℕ Refusal) → PastIn live s stretch e y → (next : ℕ) → y ≡ Ok next
        → room_of s stretch next < room_of s stretch at
    turn_less y m next p =
        rw i (less live s segment at e next (steps (Ok (Some e)) q) (passes e y (Ok next) m p))
