-- The steps of the functions over plain values: what is told of a stretch, of a child and of an end. Assumes nothing.
use Prim.Native.Nat.{ℕ, ◌-◌, ◌<◌}
use mathlib.Core.Path.{◌≡◌, refl, sym, ap, ◌∙◌}
use mathlib.Core.List.{List}
use mathlib.Core.Bool.{Bool, true, false, ◌&&◌}
use native.Mathlib.Omega.{arith}
use lib.ListN.{length}
use Rattle.refusals.specs.Refusals.{unknown_size}
use Rattle.refusals.specs.declared.refusal.Refusal.{Refusal}
use Rattle.header.specs.Reads.{behind, header_at}
use Rattle.header.specs.declared.cursor.Headed.{Headed}
use Rattle.sizes.specs.Unknown.{unknown}
use Rattle.walks_rules.specs.Step.{is_past, ended_by, barred_step, child_at}
use Rattle.walks_rules.specs.Endings.{ended_at, within, end_from, pass_over}
use Rattle.walks_rules.specs.declared.step.Stretch.{Stretch}
use Rattle.walks_rules.specs.declared.step.Stretch.TheVariants.{Endless}
use Rattle.walks_rules.proofs.Steps.{stepped_on, less_room}
use Rattle.walks_rules.proofs.Endings.{end_unfolds, within_onward}
use Rattle.std.proofs.Common.{Result, Ok, Err, Some, None}

-- ---- a child

module _ (live : Bool) (s : List ℕ) (stretch : Stretch) (at : ℕ) where
  pub child_past : is_past s stretch at ≡ true → (Ok None) ≡ child_at live s stretch at
  unfolding child_at
  child_past k = rw k refl

  module _ (k : is_past s stretch at ≡ false) where
    pub child_unread : (r : Refusal) → header_at s at ≡ Err r → Err r ≡ child_at live s stretch at
    unfolding child_at
    child_unread r q = rw (k, q) refl

    module _ (e : Headed) (q : header_at s at ≡ Ok e) where
      pub child_ended : ended_by stretch e.header.id ≡ true → (Ok None) ≡ child_at live s stretch at
      unfolding child_at
      child_ended o = rw (k, q, o) refl

      module _ (o : ended_by stretch e.header.id ≡ false) where
        pub child_unsized : barred_step live e ≡ true
            → Err (unknown_size e.place.at) ≡ child_at live s stretch at
        unfolding child_at
        child_unsized b = rw (k, q, o, b) refl

        pub child_is : barred_step live e ≡ false → Ok (Some e) ≡ child_at live s stretch at
        unfolding child_at
        child_is b = rw (k, q, o, b) refl

-- ---- an end

module _ (s : List ℕ) (id end at : ℕ) where
  pub end_refused : (r : Refusal) → child_at true s (Endless id end) at ≡ Err r → Err r ≡ end_from s id end at
  end_refused r q = sym (end_unfolds s id end at ∙ rw q refl)

  pub end_there : (x : ℕ) → child_at true s (Endless id end) at ≡ (Ok None) → x ≡ ended_at s end at → Ok x ≡ end_from s id end at
  end_there x q e = ap Ok e ∙ sym (end_unfolds s id end at ∙ rw q refl)

  pub end_further : (e : Headed) (x : ℕ) → child_at true s (Endless id end) at ≡ Ok (Some e) → x ≡ within e
      → end_from s id end x ≡ end_from s id end at
  end_further e x q i = ap (end_from s id end) i ∙ sym (end_unfolds s id end at ∙ rw q refl)

  pub end_less : (e : Headed) (x : ℕ) → child_at true s (Endless id end) at ≡ Ok (Some e) → x ≡ within e
      → length s - x < length s - at
  end_less e x q i =
      let t = stepped_on true s (Endless id end) at e q in
      let l = within_onward e at t.onward in
      less_room s (Endless id end) at x t.room (omega arith)

pub over_ended : (live : Bool) (s : List ℕ) (end : ℕ) (e : Headed) (r : Result ℕ Refusal) → (live && unknown e.header) ≡ true
    → r ≡ end_from s e.header.id end e.payload.at → r ≡ pass_over live s end e
unfolding pass_over
over_ended live s end e r k q = q ∙ rw k refl

pub over_sized : (live : Bool) (s : List ℕ) (end : ℕ) (e : Headed) → (live && unknown e.header) ≡ false
    → Ok (behind e) ≡ pass_over live s end e
unfolding pass_over
over_sized live s end e k = rw k refl
