-- `big_endian` meets its contract: the loop has read the number of the octets passed. Assumes nothing.
use mathlib.Core.Path.{◌≡◌, refl, ◌∙◌}
use mathlib.Core.List.{List}
use native.Mathlib.Omega.{arith}
use Prim.Native.Nat.{ℕ, ◌<◌, ◌≤◌, ◌-◌, ◌+◌}
use lib.ListN.{length, take, drop, get_or, length-drop, length-take}
use lib.Seq.{get_or-take, get_or-drop}
use lib.Dec.{lit<}
use Rattle.header.specs.Vint.{big_endian, big_endian_from}
use Rattle.header.proofs.BigEndian.{number_more, more_fits, fits_in}
use Rattle.header.proofs.cursor.big_endian.Goals as goal

-- the part that is gone over has n octets, and its i-th is the i-th from `at` on
part_length : (s : List ℕ) (at n : ℕ) → at + n ≤ length s → length (take (at + n - at) (drop at s)) ≡ n
part_length s at n h = omega (arith, length-take (at + n - at) (drop at s), length-drop at s)

part_at : (s : List ℕ) (at n i : ℕ) → i < n → get_or (take (at + n - at) (drop at s)) i 0 ≡ get_or s (at + i) 0
part_at s at n i h = get_or-take (at + n - at) (drop at s) i 0 (omega arith) ∙ get_or-drop at s i 0

pub loop-octet-init : goal.loop-octet-init
unfolding big_endian big_endian_from
loop-octet-init c = (refl, lit< tt)

pub overflow_mul-value : goal.overflow_mul-value
overflow_mul-value c =
    let a = c.args in
    let i = c.loop-octet.octet-index in
    let k : i < a.n = omega (arith, part_length a.recording.now a.at a.n (omega arith)) in
    omega (arith, fits_in i 7 c.loop-octet.value (omega arith) c.loop-octet.invariant.1)

pub overflow_add-value : goal.overflow_add-value
overflow_add-value c =
    let a = c.args in
    let i = c.loop-octet.octet-index in
    let k : i < a.n = omega (arith, part_length a.recording.now a.at a.n (omega arith)) in
    let octet = c.type_inv.recording (a.at + i) in
    let e = c.from.ensures ∙ part_at a.recording.now a.at a.n i k in
    omega (arith, fits_in i 7 c.loop-octet.value (omega arith) c.loop-octet.invariant.1, e, octet)

pub loop-octet-preserved : goal.loop-octet-preserved
loop-octet-preserved c =
    let a = c.args in
    let i = c.loop-octet.octet-index in
    let k : i < a.n = omega (arith, part_length a.recording.now a.at a.n (omega arith)) in
    let octet = c.type_inv.recording (a.at + i) in
    let e = c.from.ensures ∙ part_at a.recording.now a.at a.n i k in
    let h : a.at + i < length a.recording.now = omega arith in (
      rw (number_more a.recording.now a.at i h, ← c.loop-octet.invariant.0, ← e),
      more_fits i c.loop-octet.value c.from.result c.loop-octet.invariant.1 (omega (arith, octet, e)),
    )

pub returns : goal.returns
returns c =
    let a = c.args in
    let e : c.loop-octet.octet-index ≡ a.n = omega (arith, part_length a.recording.now a.at a.n (omega arith)) in
    rw (← e) (c.loop-octet.invariant.0, c.loop-octet.invariant.1)
