-- The loop over the elements of a level, read without rows one by one: a seek head's children, a Seek's members. What
-- is read there is told in one way, and what the elements make of a value is gathered in one way. Assumes nothing.
use Prim.Native.Nat.{ℕ, ◌+◌, ◌-◌, ◌≤◌, ◌<◌}
use mathlib.Core.Path.{◌≡◌, refl, sym, ap, ◌∙◌}
use mathlib.Core.List.{List}
use mathlib.Core.Bool.{Bool}
use native.Mathlib.Omega.{arith}
use Rattle.refusals.specs.Refusals.{overrun}
use Rattle.refusals.specs.declared.refusal.Refusal.{Refusal}
use Rattle.kinds.specs.Kinds.{kind_under}
use Rattle.bodies_rules.specs.Bodies.{body_of}
use Rattle.elements_rules.specs.Forest.{Forest, none, node, span, count, join}
use Rattle.elements_rules.specs.Reading.{Outcome, done, refused, prepend, above, full, held, siblings, element_of}
use Rattle.elements_rules.specs.Reading.{element_header_read, element, depths, master_body}
use Rattle.elements_rules.proofs.Parts.{step_read}
use Rattle.elements_rules.proofs.Forests.{join_none, span_join, prepend_none, prepend_prepend}
use Rattle.elements_rules.proofs.Reading.{el_refused, el_body, stops, child_refused, child_over, child_more}
use Rattle.header.specs.Reads.{behind}
use Rattle.seekhead_rules.specs.Seeks.{without_rows}
use Rattle.seekhead_rules.specs.Contract.{element_at, told}
use Rattle.header.specs.declared.cursor.Headed.{Headed}
use Rattle.header.proofs.Inside.{header_there}
use Rattle.seekhead_rules.proofs.Uncounted.{rest_uncounted}
use Rattle.std.proofs.Common.{Ok, Err}

-- A level: the depth and the parent id of its elements, what they make of a value one after another, and how that or a
-- refusal is told.
pub record Level : Type 1 where
  pub A : Type 0
  pub R : Type 0
  pub read : A → R
  pub stop : Refusal → R
  pub depth : ℕ
  pub parent : ℕ
  pub make : ℕ → Forest → A → A

-- What is told tells what was read, and elements can be taken a few at a time.
pub record Lawful (l : Level) : Type 0 where
  pub one : (a b : l.A) → l.read a ≡ l.read b → a ≡ b
  pub other : (a : l.A) (e : Refusal) → l.read a ≡ l.stop e → ⊥
  pub cause : (e e' : Refusal) → l.stop e ≡ l.stop e' → e ≡ e'
  pub shallow : l.depth < depths
  pub nothing : (at : ℕ) (a : l.A) → l.make at none a ≡ a
  pub further :
      (at : ℕ) (f g : Forest) (a : l.A) → l.make at (join f g) a ≡ l.make (at + span f) g (l.make at f a)

module _ (live : Bool) (s : List ℕ) (l : Level) (law : Lawful l) where
  -- What one element at an address makes of a value, told.
  abbrev pub child_told : ℕ → l.A → l.R
  child_told at a = told l.read l.stop (λ f. l.make at f a) (element_at live s l.depth l.parent at)

  pub told_stopped : (make : Forest → l.A) (e : Refusal) (o : Outcome) → l.stop e ≡ told l.read l.stop make o
      → o ≡ refused e
  told_stopped make e (done f) q = absurd (law.other (make f) e (sym q))
  told_stopped make e (refused e') q = ap refused (sym (law.cause e e' q))

  pub told_read : (make : Forest → l.A) (x : l.A) (o : Outcome) → l.read x ≡ told l.read l.stop make o
      → (f : Forest) × (o ≡ done f) × (x ≡ make f)
  told_read make x (done f) q = (f, refl, law.one x (make f) q)
  told_read make x (refused e) q = absurd (law.other x e q)

  -- An element that was read takes its header and its size.
  spans : (at : ℕ) (e : Headed) → element_header_read live s at ≡ Ok e → (f : Forest)
      → element_at live s l.depth l.parent at ≡ done f
      → at + span f ≡ behind e
  unfolding span full
  spans at e q f k =
      let h = e.header in
      go (held at (body_of s (at + h.length) h.size (kind_under h.id l.parent))
      (master_body s (without_rows live) 0 (l.depth + 1) h.id (at + h.length) h.size (0 + 1)))
      (sym (el_body s (without_rows live) 0 l.depth l.parent at 0 e q law.shallow refl) ∙ k)
    where
      go : (o : Outcome) → above (element_of l.parent e.header) o ≡ done f → at + span f ≡ behind e
      go (done kids) w =
          let t = header_there s at e (step_read live s at e q).1 in
          let x : node (element_of l.parent e.header) kids none ≡ f = cc in
          let y = ap span x in
          omega (arith, t.behind)
      go (refused r) w = let z : ◌≡◌ {A = ℕ} 0 1 = cc in absurd (omega arith)

  abbrev child_read : ℕ → ℕ → Outcome
  child_read = element s (without_rows live) 0 (depths - l.depth) l.parent

  abbrev payload_read : ℕ → ℕ → Outcome
  payload_read from size = master_body s (without_rows live) 0 l.depth l.parent from size 0

  module _ (from end : ℕ) (first : l.A) where
    -- `ago` are the elements of the payload from `from` to `end` that were read so far, and `a` is what they make of
    -- the first value; what is left of the definition stands behind them.
    pub record Passing (at : ℕ) (a : l.A) : Type 0 where
      pub ago : Forest
      pub most : ℕ
      pub enough : end - at ≤ most
      pub rest : payload_read from (end - from) ≡ prepend ago (siblings child_read most at (end - at) 0)
      pub along : at ≡ from + span ago
      pub is : a ≡ l.make from ago first

    pub pass_holds : Passing from first
    unfolding master_body span
    pass_holds = record {
      ago = none;
      most = end - from;
      enough = omega arith;
      rest = sym (prepend_none _);
      along = omega arith;
      is = sym (law.nothing from first);
    }

    one_more : (at : ℕ) (a : l.A) (ago f : Forest) → a ≡ l.make from ago first → at ≡ from + span ago
        → l.make at f a ≡ l.make from (join ago f) first
    one_more at a ago f p q = rw (p, q) (sym (law.further from ago f first))

    module _ (at : ℕ) (a : l.A) (g : Passing at a) (size : ℕ) (z : end ≡ from + size) where
      -- What the whole payload makes of the first value, told.
      abbrev pub level_told : l.R
      level_told = told l.read l.stop (λ f. l.make from f first) (payload_read from size)

      comes_to : (o : Outcome) → payload_read from (end - from) ≡ o
          → told l.read l.stop (λ f. l.make from f first) o ≡ level_told
      comes_to o q =
          let y : end - from ≡ size = omega arith in
          ap (told l.read l.stop (λ f. l.make from f first)) (sym q ∙ ap (payload_read from) y)

      pub pass_ends : end ≤ at → l.read a ≡ level_told
      pass_ends o =
          let y : end - at ≡ 0 = omega arith in
          ap l.read g.is ∙ comes_to (done g.ago)
          (g.rest ∙ rw (y, stops child_read g.most at 0, join_none g.ago))

      module _ (more : at < end) where
        lost : (e : Refusal) → child_read at 0 ≡ refused e → l.stop e ≡ level_told
        lost e q =
            comes_to (refused e)
            (g.rest ∙ rw (child_refused child_read g.most at _ 0 e (omega arith) g.enough q))

        pub pass_unread : (e : Refusal) → element_header_read live s at ≡ Err e → l.stop e ≡ level_told
        pass_unread e q =
            lost e (el_refused s (without_rows live) 0 l.depth l.parent at 0 e q)

        module _ (e : Headed) (q : element_header_read live s at ≡ Ok e) where
          -- The child's answer names its place by its header.
          here : (r : l.R) → r ≡ child_told e.place.at a → r ≡ child_told at a
          here r w = w ∙ ap (λ (x : ℕ). child_told x a) (header_there s at e (step_read live s at e q).1).begins

          pub pass_refused : (x : Refusal) → l.stop x ≡ child_told e.place.at a → l.stop x ≡ level_told
          pass_refused x w = lost x (told_stopped _ x _ (here (l.stop x) w))

          module _ (x : l.A) (w : l.read x ≡ child_told e.place.at a) where
            pub pass_overruns : end < behind e → l.stop (overrun at) ≡ level_told
            pass_overruns o =
                let (f, k, y) = told_read _ x _ (here (l.read x) w) in
                comes_to (refused (overrun at))
                (g.rest ∙ rw (child_over child_read g.most at _ 0 f (omega arith) g.enough k
                (omega (arith, spans at e q f k))))

            step : (f : Forest) → element_at live s l.depth l.parent at ≡ done f → x ≡ l.make at f a
                → behind e ≤ end
                → Passing (behind e) x
            step f k y o =
                let p = spans at e q f k in
                let t = header_there s at e (step_read live s at e q).1 in
                let (fewer, m, u) =
                child_more child_read g.most at (end - at) 0 f (omega arith) g.enough k (omega arith) in
                let b : end - at - span f ≡ end - behind e = omega arith in
                let v = rest_uncounted live s 0 (depths - l.depth) l.parent fewer (at + span f) (end - at - span f)
                (0 + count f) in
                let z : siblings child_read fewer (at + span f) (end - at - span f) 0
                ≡ siblings child_read fewer (behind e) (end - behind e) 0 = cc in
                record {
                  ago = join g.ago f;
                  most = fewer;
                  enough = omega (arith, g.enough, t.some, t.behind);
                  rest =
                      g.rest ∙ ap (prepend g.ago) (u ∙ ap (prepend f) (v ∙ z)) ∙ prepend_prepend g.ago f
                      (siblings child_read fewer (behind e) (end - behind e) 0);
                  along = omega (arith, g.along, span_join g.ago f);
                  is = y ∙ one_more at a g.ago f g.is g.along;
                }

            pub pass_again : behind e ≤ end → Passing (behind e) x
            pass_again o = let (f, k, y) = told_read _ x _ (here (l.read x) w) in step f k y o
