-- The label of a stage: what is shown of the string's part, or the caller's own. Assumes nothing.
use Prim.Native.Nat.{ℕ, ◌+◌, ◌-◌, ◌≤◌, ◌<◌}
use mathlib.Core.Path.{◌≡◌, refl, sym, ap, ◌∙◌}
use mathlib.Core.List.{List, [], ◌∷◌}
use native.Mathlib.Omega.{arith}
use lib.ListN.{length, take, drop, length-drop}
use lib.Seq.{take_all}
use Rattle.std.specs.List.{slice_range}
use borrow.Author.Tests.{le-leb, lt-leb}
use Rattle.bodies_rules.specs.declared.body.Range.{Range}
use Rattle.shown_rules.specs.Shown.{shown}
use Rattle.labels.specs.Labels.{or_own, label_of}
use Rattle.labels.specs.Promise.{LabelPromise}
use Rattle.std.proofs.Common.{Option, Some, None}

-- ---- an empty text is no label

pub own_empty : (text own : List ℕ) → text ≡ [] → or_own text own ≡ own
own_empty text own e = ap (λ (x : List ℕ). or_own x own) e

pub own_other : (text own : List ℕ) → (text ≡ [] → ⊥) → or_own text own ≡ text
own_other [] own e = absurd (e refl)
own_other (b ∷ text) own e = refl

none_shown : (text : List ℕ) → length text ≡ 0 → text ≡ []
none_shown [] e = refl
none_shown (b ∷ text) e = absurd (omega arith)

-- A part that is taken in two steps: what stands from an address on, and its first octets.
pub two_steps : (s : List ℕ) (at n : ℕ) (rest part : List ℕ) → rest ≡ slice_range s at (length s)
    → part ≡ slice_range rest 0 n → part ≡ take n (drop at s)
two_steps s at n rest part p q =
    let whole : length (drop at s) ≤ length s - at = simp length-drop (omega arith) in
    let all : n - 0 ≡ n = omega arith in
    q ∙ rw all (ap (take n) (p ∙ take_all (length s - at) (drop at s) whole))

-- ---- the label by the string

module _ (s own : List ℕ) {string : (Option Range)} where
  pub label_unset : string ≡ None → LabelPromise s string own own
  unfolding label_of
  label_unset e = record { reply = sym (ap (λ (x : Option Range). label_of s x own) e) }

  module _ {r : Range} (e : string ≡ Some r) where
    pub label_outside : length s < r.at + r.length → LabelPromise s string own own
    unfolding label_of
    label_outside l =
        record {
          reply = sym (ap (λ (x : Option Range). label_of s x own) e ∙ rw (lt-leb (r.at + r.length) (length s) l));
        }

    module _ (l : r.at + r.length ≤ length s) where
      pub label_in : label_of s string own ≡ or_own (shown (take r.length (drop r.at s))) own
      unfolding label_of
      label_in = ap (λ (x : Option Range). label_of s x own) e ∙ rw (le-leb (r.at + r.length) (length s) l)

      -- What is shown of the string.
      module _ {text : List ℕ} (m : text ≡ shown (take r.length (drop r.at s))) where
        labelled : label_of s string own ≡ or_own text own
        labelled = label_in ∙ ap (λ (x : List ℕ). or_own x own) (sym m)

        pub label_empty : length text ≡ 0 → LabelPromise s string own own
        label_empty z = record { reply = sym (labelled ∙ own_empty text own (none_shown text z)) }

        pub label_is : (length text ≡ 0 → ⊥) → LabelPromise s string own text
        label_is z = record { reply = sym (labelled ∙ own_other text own (λ n. z (ap length n))) }
