-- `put_bytes`: one more byte stands in hexadecimal digits behind those so far, and all of them behind the label.
use mathlib.Core.Logic.{inr}
use mathlib.Core.Path.{◌≡◌, subst}
use Rattle.std.proofs.Common.{rules, ℕ, List, Option, take, length, get_or, ◌<◌}
use Rattle.std.specs.List.{flat_map}
use Rattle.std.proofs.lemmas.List.{take_all}
use Rattle.lines.specs.Gathered.{StaysFailed, Takes, TakesOrFails, in_hex, two_digits}
use Rattle.lines.proofs.Gathered.{hex_more, hex_none, hex_some, takes_on}
use Rattle.lines.proofs.out.Out.put_bytes.Goals.{then-is_empty, else-is_empty}
use Rattle.lines.proofs.out.Out.put_bytes.Goals as goal

-- src/out.rt:77:9
pub loop-byte-preserved : goal.loop-byte-preserved
loop-byte-preserved c =
    let digits : Takes c.loop-byte.self (two_digits (get_or c.args.bytes.now c.loop-byte.byte-index 0)) c.put-in-loop-byte.new.self =
    subst (λ (text : List ℕ). Takes c.loop-byte.self text c.put-in-loop-byte.new.self) c.two_digits.ensures
    (c.put-in-loop-byte.ensures.gathers, c.put-in-loop-byte.ensures.kept) in (
      hex_more _ c.args.bytes.now c.loop-byte.byte-index _ _ c.loop-byte-test.true
          c.loop-byte.invariant.0 (inr digits) c.put-in-loop-byte.ensures.failed,
      λ failed. c.put-in-loop-byte.ensures.failed (c.loop-byte.invariant.1 failed),
    )

-- src/out.rt:70:5
pub returns-clause-text : goal.returns-clause-text
returns-clause-text c =
    let all : take c.loop-byte.byte-index c.args.bytes.now ≡ c.args.bytes.now = search (rules, take_all) in
    let digits : TakesOrFails c.if-is_empty.self (flat_map two_digits c.args.bytes.now) c.loop-byte.self =
    subst (λ (bytes : List ℕ). TakesOrFails c.if-is_empty.self (flat_map two_digits bytes) c.loop-byte.self) all c.loop-byte.invariant.0 in
    let shown : TakesOrFails c.put.new.self (in_hex c.args.bytes.now) c.loop-byte.self × StaysFailed c.put.new.self c.loop-byte.self = elim c.if-is_empty.branch [
      | then-is_empty w ↦
          let none : length c.args.bytes.now ≡ 0 = search rules in
          let behind = subst (λ (b : Option (List ℕ)). TakesOrFails b (flat_map two_digits c.args.bytes.now) c.loop-byte.self) w.self-is digits in
          let stays = subst (λ (b : Option (List ℕ)). StaysFailed b c.loop-byte.self) w.self-is c.loop-byte.invariant.1 in (
            hex_none _ _ _ _ none (w.put-then-is_empty.ensures.gathers, w.put-then-is_empty.ensures.kept) behind stays,
            λ failed. stays (w.put-then-is_empty.ensures.failed failed),
          )
      | else-is_empty w ↦
          let some : 0 < length c.args.bytes.now = search rules in (
            hex_some _ _ _ some (subst (λ (b : Option (List ℕ)). TakesOrFails b (flat_map two_digits c.args.bytes.now) c.loop-byte.self) w.self-is digits),
            subst (λ (b : Option (List ℕ)). StaysFailed b c.loop-byte.self) w.self-is c.loop-byte.invariant.1,
          )
    ] in
    takes_on _ c.args.label.now _ (in_hex c.args.bytes.now) _ (inr (c.put.ensures.gathers, c.put.ensures.kept)) shown.0 shown.1
