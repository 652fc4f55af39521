-- `past_ascii` meets its contract: each of the eights that are passed is ASCII. Assumes nothing.
use mathlib.Core.Path.{◌≡◌, ap, ◌∙◌}
use native.Mathlib.Omega.{arith}
use Prim.Native.Nat.{ℕ, ◌*◌, ◌/◌}
use lib.ListN.{length, drop}
use Rattle.std.proofs.Common.{rules, tests}
use Rattle.std.proofs.lemmas.Iterator.{IsFirst-from_position, YieldsList-from_slice}
use Rattle.std.proofs.lemmas.Slice.{between_to_end}
use Rattle.utf8.proofs.Ascii.{Passed, behind_eights}
use Rattle.utf8.proofs.past_ascii.Goals as goal

pub returns-in-Some : goal.returns-in-Some
returns-in-Some c =
    let s = c.args.bytes.now in
    let eights = c.as_chunks.result.0.now in
    let p = c.as_chunks.ensures in
    let first = IsFirst-from_position _ _ _ (λ _. Unit {0}) Passed c.position.ensures.ran
    (YieldsList-from_slice eights cc) (λ x q k. tt) (λ x q k. search (rules, tests)) in
    let f = rw c.in-Some.is at first in
    behind_eights s eights (length s / 8) c.in-Some.passed _ p.front (omega arith) (omega (arith, f.0, p.front_len)) f.2
    (between_to_end s (8 * c.in-Some.passed) (length s) (omega arith))

pub returns-in-None : goal.returns-in-None
returns-in-None c =
    let s = c.args.bytes.now in
    let eights = c.as_chunks.result.0.now in
    let p = c.as_chunks.ensures in
    let first = IsFirst-from_position _ _ _ (λ _. Unit {0}) Passed c.position.ensures.ran
    (YieldsList-from_slice eights cc) (λ x q k. tt) (λ x q k. search (rules, tests)) in
    let place : length s / 8 * 8 ≡ 8 * length eights = omega (arith, p.front_len) in
    behind_eights s eights (length s / 8) (length eights) _ p.front (omega arith) (omega (arith, p.front_len))
    (rw c.in-None.is at first) (p.back ∙ ap (λ (j : ℕ). drop j s) place)
