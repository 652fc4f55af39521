-- `Cursor::octets` meets its contract, by what the first octet is: none, 0, or one that holds the marker.
-- Assumes nothing.
use mathlib.Core.Path.{◌≡◌, ap, ◌∙◌, sym}
use mathlib.Core.List.{List}
use native.Mathlib.Omega.{arith}
use lib.ListN.{length, take, drop, get_or, length-drop}
use lib.Count.{count_leading_zeros, leading_le}
use Prim.Native.Nat.{ℕ, ◌+◌, ◌-◌, ◌<◌}
use Rattle.std.proofs.Common.{Ok, take_all}
use Rattle.std.proofs.lemmas.Nat.{leading_top}
use Rattle.header.specs.Reads.{width_at, octets_of}
use Rattle.header.proofs.Widths.{width_end, width_zero, width_one, octets_long, octets_none, octets_few}
use Rattle.header.proofs.cursor.Cursor.octets.Goals as goal

-- the octets behind the first one, as the slice of them that is passed on
rest_at : (s : List ℕ) (at : ℕ) → at < length s → take (length s - (at + 1)) (drop (at + 1) s) ≡ drop (at + 1) s
rest_at s at h = take_all _ (drop (at + 1) s) (omega (arith, length-drop (at + 1) s))

pub returns-then-length-self : goal.returns-then-length-self
unfolding octets_of
returns-then-length-self c =
    let a = c.args in
    sym (ap octets_of (width_end a.recording.now a.self.at (omega arith)))

pub returns-then-first-ne0 : goal.returns-then-first-ne0
returns-then-first-ne0 c =
    let a = c.args in
    let b = get_or a.recording.now a.self.at 0 in
    let octet = (c.type_inv.recording a.self.at).fits in
    let (j, e, least, most) = leading_top 8 b (omega arith) octet in
    ap (λ (n : ℕ). Ok (n + 1)) c.from.ensures
    ∙ sym (ap octets_of (width_one a.recording.now a.self.at (omega arith) octet c.if-first-ne0.true)
    ∙ octets_few (count_leading_zeros 8 b) (omega arith))

pub overflow_add-result : goal.overflow_add-result
overflow_add-result c =
    let a = c.args in
    omega (arith, leading_le 8 (get_or a.recording.now a.self.at 0))

pub returns-then-is_marked : goal.returns-then-is_marked
returns-then-is_marked c =
    let a = c.args in
    let m = rw (rest_at a.recording.now a.self.at (omega arith)) at c.is_marked.ensures in
    sym (ap octets_of (width_zero a.recording.now a.self.at (omega arith) (omega arith))
    ∙ octets_long (width_at a.recording.now (a.self.at + 1)) (sym m ∙ c.if-is_marked.true))

pub returns : goal.returns
returns c =
    let a = c.args in
    let m = rw (rest_at a.recording.now a.self.at (omega arith)) at c.is_marked.ensures in
    sym (ap octets_of (width_zero a.recording.now a.self.at (omega arith) (omega arith))
    ∙ octets_none (width_at a.recording.now (a.self.at + 1)) (sym m ∙ c.if-is_marked.false))
