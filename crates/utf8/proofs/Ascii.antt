-- Octets joined to one word, and a mask of their high bits that finds none. Assumes nothing.
use mathlib.Core.Path.{◌≡◌, refl, ap, ◌∙◌, sym}
use mathlib.Core.List.{List, [], ◌++◌}
use Prim.Native.Nat.{ℕ, zero, suc, ◌+◌, ◌-◌, ◌*◌, ◌^◌, ◌/◌, ◌%◌, ◌≤◌, ◌<◌}
use native.Mathlib.Omega.{arith}
use native.Mathlib.Nat.{mod-eq_of_lt}
use lib.Bits.{bit_and, and_block, and_high}
use lib.ListN.{length, take, drop, get_or, drop_of_length-le, take-append-drop, length-drop}
use lib.Seq.{drop-cons, drop-drop}
use Rattle.std.specs.List.{AllWithin}
use Rattle.std.specs.Simd.{first_chunks}
use Rattle.std.specs.Int.{w64, from_le_bytes}
use Rattle.utf8.specs.Utf8.{goes_on}
use Rattle.utf8.proofs.Steps.{ascii}

-- the n octets from the place k on as one word, the last the highest
abbrev word : List ℕ → ℕ → ℕ → ℕ
word s k zero = 0
word s k (suc n) = word s (suc k) n * 256 + get_or s k 0

-- the high bits of n octets
abbrev pub highs : ℕ → ℕ
highs zero = 0
highs (suc n) = highs n * 256 + 128

-- one octet more
clear : (a m b : ℕ) → b < 256 → bit_and (a * 256 + b) (m * 256 + 128) ≡ 0 → (bit_and a m ≡ 0) × (b < 128)
clear a m b h e =
    let k : bit_and (a * 2 ^ 8 + b) (m * 2 ^ 8 + 128) ≡ bit_and a m * 2 ^ 8 + bit_and b 128 =
    and_block 8 a m b 128 h (omega arith) in
    let q : bit_and b (2 ^ (1 + 7) - 2 ^ 7) ≡ (b / 2 ^ 7 % 2 ^ 1) * 2 ^ 7 = and_high b 1 7 in
    let x : b / 128 < 2 = omega arith in
    let y : b / 128 % 2 ≡ 0 = omega arith in
    let z : b / 128 ≡ 0 = sym (mod-eq_of_lt x) ∙ y in
    (omega arith, omega arith)

module _ (s : List ℕ) (octets : (j : ℕ) → get_or s j 0 < 256) (t : List ℕ) where
  passed :
      (k n : ℕ) → k + n ≡ length s → bit_and (word s k n) (highs n) ≡ 0
      → goes_on [] (drop k s ++ t) ≡ goes_on [] t
  passed k zero h e =
      let none : drop k s ≡ [] = drop_of_length-le s (omega arith) in
      rw none
  passed k (suc n) h e =
      let (c, l) = clear (word s (suc k) n) (highs n) (get_or s k 0) (octets k) e in
      rw (drop-cons s k 0 (omega arith))
      (ascii (get_or s k 0) (drop (suc k) s ++ t) l ∙ passed (suc k) n (omega arith) c)

  pub eight_passed :
      length s ≡ 8 → bit_and (from_le_bytes w64 s) 0x8080808080808080 ≡ 0 → goes_on [] (s ++ t) ≡ goes_on [] t
  eight_passed h e =
      let joined : from_le_bytes w64 s ≡ word s 0 8 = omega arith in
      passed 0 8 (omega arith) (ap (λ (x : ℕ). bit_and x (highs 8)) (sym joined) ∙ e)

-- Octets that decide nothing, whatever is behind them.
abbrev pub Passed : List ℕ → Type 0
Passed t = (s : List ℕ) → goes_on [] (t ++ s) ≡ goes_on [] s

-- The first k of n eights.
pub eights_passed :
    (k n : ℕ) (s : List ℕ) → k ≤ n → n * 8 ≤ length s → AllWithin Passed (first_chunks 8 n s) 0 k
    → goes_on [] s ≡ goes_on [] (drop (8 * k) s)
eights_passed zero n s h room all = refl
eights_passed (suc k) zero s h room all = absurd (omega arith)
eights_passed (suc k) (suc n) s h room all =
    let here : goes_on [] (take 8 s ++ drop 8 s) ≡ goes_on [] (drop 8 s) =
    all 0 [] (omega arith) (omega arith) (drop 8 s) in
    let there = eights_passed k n (drop 8 s) (omega arith) (omega (arith, length-drop 8 s))
    (λ j d l g. all (suc j) d (omega arith) (omega arith)) in
    let place : 8 + 8 * k ≡ 8 * suc k = omega arith in
    ap (goes_on []) (sym (take-append-drop 8 s)) ∙ here ∙ there
    ∙ ap (goes_on []) (drop-drop (8 * k) 8 s ∙ ap (λ (j : ℕ). drop j s) place)

pub behind_eights :
    (s : List ℕ) (eights : List (List ℕ)) (n k : ℕ) (rest : List ℕ) → eights ≡ first_chunks 8 n s → n * 8 ≤ length s
    → k ≤ n → AllWithin Passed eights 0 k → rest ≡ drop (8 * k) s
    → (goes_on [] s ≡ goes_on [] rest) × (length rest ≤ length s)
behind_eights s eights n k rest e room h all r = (
  eights_passed k n s h room (rw e at all) ∙ ap (goes_on []) (sym r),
  omega (arith, length-drop (8 * k) s, ap length r),
)
