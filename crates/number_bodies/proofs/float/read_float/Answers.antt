-- `read_float` meets its contract: another size, the bytes missing, or a value of one of two widths. Assumes nothing.
use Rattle.std.proofs.Common.{◌≡◌, ℕ, ap, ◌∙◌, Ok}
use mathlib.Core.Logic.{◌⊎◌, inl, inr}
use lib.Ieee.{Float}
use Rattle.std.specs.Result.{result_ok}
use Rattle.std.proofs.lemmas.Result.{err_from_is_err_and}
use Rattle.bodies_rules.specs.declared.body.Body.TheVariants as B
use Rattle.bodies_rules.specs.declared.body.Value.TheVariants as W
use Rattle.bodies_rules.proofs.Found.{found_ok, ended_err}
use Rattle.bodies_rules.proofs.ByKind.{float_other, float_ends, float_there_4, float_there_8}
use Rattle.number_bodies.proofs.float.read_float.Goals as goal

-- A size that is taken is 4 or 8.
sized : (n : ℕ) → ((n ≡ 4 → ⊥) × (n ≡ 8)) ⊎ (n ≡ 4) → (n ≡ 4) ⊎ (n ≡ 8)
sized n (inl (four, eight)) = inr eight
sized n (inr four) = inl four

other : (n : ℕ) → (n ≡ 4) ⊎ (n ≡ 8) → (n ≡ 4 → ⊥) → n ≡ 8
other n (inl four) not_four = absurd (not_four four)
other n (inr eight) not_four = eight

pub returns-then-size-ne8 : goal.returns-then-size-ne8
returns-then-size-ne8 c = float_other _ _ _ c.if-size-ne4.true c.if-size-ne8.true

pub returns-in_err-pattern : goal.returns-in_err-pattern
returns-in_err-pattern c =
    let p = err_from_is_err_and c.from_residual.result c.from_residual.ensures.1 in
    let m = ended_err _ _ _ _ _ _ _ c.number.ensures.0 c.ok_or.ensures.value c.in_err-pattern.was in
    rw (p.1, p.2, m.0) (float_ends _ _ _ m.1 (sized c.args.size c.else-size-ne4.either))

pub float_of_4-float-requires : goal.float_of_4-float-requires
float_of_4-float-requires c =
    let told = c.ok_or.ensures.ok_part ∙ ap result_ok c.in_ok-pattern.was in
    rw (told, c.if-size-eq4.true) at c.number.ensures.1

pub returns-then-size-eq4 : goal.returns-then-size-eq4
returns-then-size-eq4 c =
    let there = found_ok _ _ _ _ _ _ _ c.number.ensures.0 c.ok_or.ensures.ok_part c.in_ok-pattern.was in
    ap (λ (x : Float). Ok (B.Value (W.Float x), c.in_ok-pattern.next)) c.float_of_4-float.ensures
    ∙ float_there_4 _ _ _ _ _ there c.if-size-eq4.true

pub returns-else-size-eq4 : goal.returns-else-size-eq4
returns-else-size-eq4 c =
    let there = found_ok _ _ _ _ _ _ _ c.number.ensures.0 c.ok_or.ensures.ok_part c.in_ok-pattern.was in
    ap (λ (x : Float). Ok (B.Value (W.Float x), c.in_ok-pattern.next)) c.float_of_8-float.ensures
    ∙ float_there_8 _ _ _ _ _ there (other c.args.size (sized c.args.size c.else-size-ne4.either) c.if-size-eq4.false)
