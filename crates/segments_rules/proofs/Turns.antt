-- One turn of the walk over the segment's children, over plain values. Assumes nothing.
use Prim.Native.Nat.{ℕ, ◌<◌}
use mathlib.Core.Path.{◌≡◌, refl, sym, ap, ◌∙◌, subst}
use mathlib.Core.List.{List}
use mathlib.Core.Bool.{Bool, true, false}
use Rattle.refusals.specs.Refusals.{overrun}
use Rattle.refusals.specs.declared.refusal.Refusal.{Refusal}
use Rattle.header.specs.declared.cursor.Headed.{Headed}
use Rattle.walks_rules.specs.Step.{child_at}
use Rattle.walks_rules.specs.Endings.{pass_over, end_of, room_of}
use Rattle.walks_rules.specs.declared.step.Stretch.{Stretch}
use Rattle.walks_rules.proofs.Steps.{stepped_on, less_room}
use Rattle.walks_rules.proofs.Endings.{pass_onward}
use Rattle.seekchain_rules.specs.Contract.{place_told}
use Rattle.segments_rules.specs.Segment.{stretch_of, overruns, visit, segment_children_from, segment_children}
use Rattle.segments_rules.specs.Contract.{visit_told}
use Rattle.segments_rules.proofs.Walks.{children_unfold, child_ends, child_over}
use Rattle.std.proofs.Common.{Result, Option, Ok, Err, Some, None}

module _ (live : Bool) (s : List ℕ) (wanted : ℕ) (segment : Headed) (stretch : Stretch) (end at : ℕ)
    (i : stretch ≡ stretch_of live s segment) (j : end ≡ end_of stretch)
    (g : segment_children live s wanted segment ≡ segment_children_from live s wanted segment at) where
  abbrev told : Result (Option Headed × ℕ) Refusal
  told = place_told (segment_children live s wanted segment)

  steps : (x : Result (Option Headed) Refusal) → child_at live s stretch at ≡ x → child_at live s (stretch_of live s segment) at ≡ x
  steps x q = ap (λ (y : Stretch). child_at live s y at) (sym i) ∙ q

  passes : (e : Headed) (x : Result ℕ Refusal) → pass_over live s end e ≡ x
      → pass_over live s (end_of (stretch_of live s segment)) e ≡ x
  passes e x q = ap (λ (y : ℕ). pass_over live s y e) (sym (j ∙ ap end_of i)) ∙ q

  pub turn_refused : (r : Refusal) → child_at live s stretch at ≡ Err r → Err r ≡ told
  turn_refused r q = rw (g, children_unfold live s wanted segment at, steps (Err r) q) refl

  pub turn_ended : child_at live s stretch at ≡ (Ok None) → Ok (None, 0) ≡ told
  turn_ended q = rw (g, children_unfold live s wanted segment at, steps (Ok None) q) refl

  module _ (e : Headed) (q : child_at live s stretch at ≡ Ok (Some e)) where
    pub turn_ends : (p : Result (Option Headed × ℕ) Refusal) → Some p ≡ visit_told (visit live s wanted segment e) → p ≡ told
    turn_ends p w = child_ends live s wanted segment at e (steps (Ok (Some e)) q) p w ∙ sym (ap place_told g)

    module _ (o : None ≡ visit_told (visit live s wanted segment e)) where
      pub turn_overruns : overruns live segment e ≡ true → Err (overrun e.place.at) ≡ told
      turn_overruns b = rw (g, child_over live s wanted segment at e (steps (Ok (Some e)) q) o, b) refl

      module _ (b : overruns live segment e ≡ false) where
        pub turn_lost : (r : Refusal) → pass_over live s end e ≡ Err r → Err r ≡ told
        turn_lost r p = rw (g, child_over live s wanted segment at e (steps (Ok (Some e)) q) o, b, passes e (Err r) p) refl

        pub turn_again : (next : ℕ) → pass_over live s end e ≡ Ok next
            → segment_children live s wanted segment ≡ segment_children_from live s wanted segment next
        turn_again next p =
            g ∙ child_over live s wanted segment at e (steps (Ok (Some e)) q) o ∙ rw (b, passes e (Ok next) p) refl

    pub turn_less : (next : ℕ) → pass_over live s end e ≡ Ok next → room_of s stretch next < room_of s stretch at
    turn_less next p =
        let t = stepped_on live s stretch at e q in
        less_room s stretch at next t.room
        (pass_onward live s stretch at e next t (ap (λ (y : ℕ). pass_over live s y e) (sym j) ∙ p))
