-- A reading without rows does not depend on how many rows stand before it. Assumes nothing.
use Prim.Native.Nat.{ℕ, zero, suc, ◌+◌, ◌-◌}
use mathlib.Core.Path.{◌≡◌, refl, sym, ap, ◌∙◌}
use mathlib.Core.List.{List}
use mathlib.Core.Bool.{Bool, cond}
use lib.Dec.{ltb, eqb}
use Rattle.header.specs.Header.{Heading, heading}
use Rattle.header.specs.Header.{refused as refused_header}
use Rattle.refusals.specs.Refusals.{overrun, no_free_row}
use Rattle.header.specs.declared.cursor.Header.{Header}
use Rattle.kinds.specs.Kinds.{kind_under}
use Rattle.bodies_rules.specs.Bodies.{body_of}
use Rattle.elements_rules.specs.Forest.{Forest, none, span, count}
use Rattle.elements_rules.specs.Reading.{element_header, Outcome, done, refused, and_then, prepend, above, refuse_if}
use Rattle.elements_rules.specs.Reading.{headed, held, full}
use Rattle.elements_rules.specs.Reading.{element_header, siblings, element_of, element, depths, master_body}
use Rattle.seekhead_rules.specs.Seeks.{without_rows}

siblings_uncounted : (read : ℕ → ℕ → Outcome) → ((at n : ℕ) → read at n ≡ read at 0) → (most at left n : ℕ)
    → siblings read most at left n ≡ siblings read most at left 0
unfolding siblings
siblings_uncounted read same zero at left n = refl
siblings_uncounted read same (suc most) at left n =
    ap (cond (eqb left 0) (done none)) (rw (same at n) (go (read at 0) (siblings_uncounted read same most)))
  where
    others : ℕ → Forest → Outcome
    others m f =
        refuse_if (ltb left (span f)) (overrun at)
        (prepend f (siblings read most (at + span f) (left - span f) (m + count f)))

    go : (o : Outcome)
        → ((a l m : ℕ) → siblings read most a l m ≡ siblings read most a l 0)
        → and_then o (others n) ≡ and_then o (others 0)
    go (done f) fewer =
        ap (λ (x : Outcome). refuse_if (ltb left (span f)) (overrun at) (prepend f x))
        (fewer (at + span f) (left - span f) (n + count f) ∙ sym (fewer (at + span f) (left - span f) (0 + count f)))
    go (refused e) fewer = refl

module _ (live : Bool) (s : List ℕ) (cap : ℕ) where
  element_uncounted : (levels parent at n : ℕ)
      → element s (without_rows live) cap levels parent at n ≡ element s (without_rows live) cap levels parent at 0
  unfolding element full refuse_if
  element_uncounted zero parent at n = refl
  element_uncounted (suc levels) parent at n = go (element_header live s at) (element_uncounted levels)
    where
      body : ℕ → Header → Outcome
      body m h =
          refuse_if (full (without_rows live) cap m) (no_free_row at)
          (above (element_of parent h)
          (held at (body_of s (at + h.length) h.size (kind_under h.id parent))
          (siblings (element s (without_rows live) cap levels h.id) h.size (at + h.length) h.size (m + 1))))

      go : (x : Heading)
          → ((p a m : ℕ) → element s (without_rows live) cap levels p a m
          ≡ element s (without_rows live) cap levels p a 0)
          → headed at x (body n) ≡ headed at x (body 0)
      go (heading h) lower =
          let read = element s (without_rows live) cap levels h.id in
          let start = at + h.length in
          ap (λ (x : Outcome). above (element_of parent h)
          (held at (body_of s start h.size (kind_under h.id parent)) x))
          (siblings_uncounted read (lower h.id) h.size start h.size (n + 1)
          ∙ sym (siblings_uncounted read (lower h.id) h.size start h.size (0 + 1)))
      go (refused_header e) lower = refl

  pub body_uncounted : (depth parent at size n : ℕ)
      → master_body s (without_rows live) cap depth parent at size n
      ≡ master_body s (without_rows live) cap depth parent at size 0
  unfolding master_body
  body_uncounted depth parent at size n =
      siblings_uncounted (element s (without_rows live) cap (depths - depth) parent)
      (element_uncounted (depths - depth) parent) size at size n

  pub rest_uncounted : (levels parent most at left n : ℕ)
      → siblings (element s (without_rows live) cap levels parent) most at left n
      ≡ siblings (element s (without_rows live) cap levels parent) most at left 0
  rest_uncounted levels parent most at left n =
      siblings_uncounted (element s (without_rows live) cap levels parent) (element_uncounted levels parent) most at
      left n
