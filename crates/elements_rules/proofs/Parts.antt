-- What an accepted reading says of its parts: of one element, and of elements one after another. Assumes nothing.
use Prim.Native.Nat.{ℕ, zero, suc, ◌+◌, ◌-◌, ◌≤◌}
use mathlib.Core.Path.{◌≡◌, refl, sym, ap, ◌∙◌, subst}
use mathlib.Core.List.{List}
use mathlib.Core.Bool.{Bool, true, false, cond, ◌&&◌}
use native.Mathlib.Omega.{arith}
use lib.ListN.{drop}
use lib.Dec.{eqb}
use borrow.Author.Tests.{eqb-true, ltb-false}
use Rattle.header.specs.Header.{Heading, heading, header_of}
use Rattle.header.specs.Header.{refused as refused_header}
use Rattle.header.specs.Reads.{header_read, header_at, headed_at}
use Rattle.header.specs.declared.cursor.Headed.{Headed}
use Rattle.header.proofs.Inside.{header_read_law, header_refused}
use Rattle.refusals.specs.Refusals.{because, too_deep, unknown_size}
use Rattle.refusals.specs.declared.refusal.Cause.TheVariants.{UnknownSize}
use Rattle.refusals.specs.declared.refusal.Cause.{Cause}
use Rattle.refusals.specs.declared.refusal.Refusal.{Refusal}
use Rattle.sizes.specs.Unknown.{unknown}
use Rattle.header.specs.declared.cursor.Header.{Header}
use Rattle.kinds.specs.Kinds.{kind_under}
use Rattle.bodies_rules.specs.Bodies.{body_of}
use Rattle.elements_rules.specs.Forest.{Forest, none, node, span, count, join}
use Rattle.elements_rules.specs.Reading.{Outcome, done, refused, held, full, siblings, element, element_of}
use Rattle.elements_rules.specs.Reading.{taken, element_header, element_header_read}
use Rattle.elements_rules.specs.declared.row.Mode.{Mode}
use Rattle.elements_rules.proofs.Outcomes.{never, of_refuse, of_prepend, of_above, of_then, of_headed, of_cond}
use Rattle.std.proofs.Common.{Ok, Err}

-- No elements, or one that was read and fits into what was left, and then the others.
pub of_siblings : {C : Type 0} (read : ℕ → ℕ → Outcome) (most at left n : ℕ) (f : Forest)
    → siblings read (suc most) at left n ≡ done f
    → (left ≡ 0 → f ≡ none → C)
    → ((g r : Forest) → read at n ≡ done g → span g ≤ left
    → siblings read most (at + span g) (left - span g) (n + count g) ≡ done r → f ≡ join g r → C)
    → C
unfolding siblings
of_siblings read most at left n f q ended more =
    of_cond (eqb left 0) q
    (λ t w. let e : f ≡ none = cc in ended (eqb-true left 0 t) e)
    (λ t w.
    let (g, e, v) = of_then w in
    let u = of_refuse _ _ _ v in
    let (r, x, y) = of_prepend g (siblings read most (at + span g) (left - span g) (n + count g)) f u.1 in
    more g r e (ltb-false left (span g) u.0) x y)

pub of_none : (read : ℕ → ℕ → Outcome) (at left n : ℕ) (f : Forest) → siblings read zero at left n ≡ done f → f ≡ none
unfolding siblings
of_none read at left n f q = cc

-- What the header step lets through was read, and in live mode its size is known.
pub of_taken : (live : Bool) (x : Heading) (h : Header) → taken live x ≡ heading h
    → (x ≡ heading h) × ((live && unknown h) ≡ false)
of_taken live (refused_header c) h q = let z : ◌≡◌ {A = ℕ} 0 1 = cc in absurd (omega arith)
of_taken live (heading g) h q = go (live && unknown g) refl q
  where
    go : (b : Bool) → (live && unknown g) ≡ b → cond b (refused_header UnknownSize) (heading g) ≡ heading h
        → (heading g ≡ heading h) × ((live && unknown h) ≡ false)
    go true e w = let z : ◌≡◌ {A = ℕ} 0 1 = cc in absurd (omega arith)
    go false e w = let y : g ≡ h = cc in (w, subst (λ (k : Header). (live && unknown k) ≡ false) y e)

-- What it refuses is refused by its own octets, or is of unknown size in live mode.
pub of_untaken : {A : Type 0} (live : Bool) (x : Heading) (c : Cause) → taken live x ≡ refused_header c
    → (x ≡ refused_header c → A)
    → ((h : Header) → x ≡ heading h → (live && unknown h) ≡ true → c ≡ UnknownSize → A)
    → A
of_untaken live (refused_header d) c q own size = own q
of_untaken {A} live (heading g) c q own size = go (live && unknown g) refl q
  where
    go : (b : Bool) → (live && unknown g) ≡ b → cond b (refused_header UnknownSize) (heading g) ≡ refused_header c → A
    go true e w = size g refl e (cc)
    go false e w = let z : ◌≡◌ {A = ℕ} 0 1 = cc in absurd (let y : ⊥ = omega arith in y)

-- The same at a place of a recording.
pub taken_there : (live : Bool) (s : List ℕ) (at : ℕ) (h : Header) → element_header live s at ≡ heading h
    → header_of (drop at s) ≡ heading h
taken_there live s at h q = (of_taken live (header_of (drop at s)) h q).0

-- Where the size is known it lets a header through.
pub known_taken : (live : Bool) (s : List ℕ) (at : ℕ) (h : Header) → header_of (drop at s) ≡ heading h
    → (live && unknown h) ≡ false → element_header live s at ≡ heading h
known_taken live s at h q k = rw (q, k)

-- The step as the code tells it: what it reads and what it refuses.
module _ (live : Bool) (s : List ℕ) (at : ℕ) where
  pub step_read : (e : Headed) → element_header_read live s at ≡ Ok e
      → (element_header live s at ≡ heading e.header) × (header_at s at ≡ Ok e)
  unfolding header_read header_at
  step_read e q = go (element_header live s at) refl q
    where
      go : (x : Heading) → element_header live s at ≡ x → header_read at x ≡ Ok e
          → (element_header live s at ≡ heading e.header) × (header_at s at ≡ Ok e)
      go (refused_header c) t w = let z : ◌≡◌ {A = ℕ} 0 1 = cc in absurd (omega arith)
      go (heading g) t w =
          let y : headed_at at g ≡ e = cc in
          let u : element_header live s at ≡ heading e.header = t ∙ ap (λ (x : Headed). heading x.header) y in
          (u, ap (header_read at) (taken_there live s at g t) ∙ w)

  pub step_refused : (e : Refusal) → element_header_read live s at ≡ Err e
      → (element_header live s at ≡ refused_header e.cause) × (because e.cause at ≡ e)
  unfolding header_read
  step_refused e q = go (element_header live s at) refl q
    where
      go : (x : Heading) → element_header live s at ≡ x → header_read at x ≡ Err e
          → (element_header live s at ≡ refused_header e.cause) × (because e.cause at ≡ e)
      go (refused_header c) t w =
          let y : because c at ≡ e = cc in (
            t ∙ ap (λ (x : Refusal). refused_header x.cause) y,
            ap (λ (x : Refusal). because x.cause at) (sym y)
                ∙ y,
          )
      go (heading g) t w = let z : ◌≡◌ {A = ℕ} 0 1 = cc in absurd (omega arith)

  -- What the code tells, by the header at the place.
  pub told_refused : (e : Refusal) → header_at s at ≡ Err e → Err e ≡ element_header_read live s at
  unfolding header_read
  told_refused e q = let (h, i) = header_refused s at e q in rw h (ap Err (sym i))

  module _ (e : Headed) (q : header_at s at ≡ Ok e) where
    pub told_unknown : (live && unknown e.header) ≡ true
        → Err (unknown_size at) ≡ element_header_read live s at
    unfolding header_read
    told_unknown k = rw ((header_read_law s at e q).0, k)

    pub told_known : (live && unknown e.header) ≡ false → Ok e ≡ element_header_read live s at
    unfolding header_read
    told_known k = rw ((header_read_law s at e q).0, k) (ap Ok (header_read_law s at e q).1)

module _ (s : List ℕ) (mode : Mode) (cap : ℕ) where
  -- Where no depth is left, nothing is accepted.
  pub no_depth : {A : Type 0} (parent at n : ℕ) (f : Forest) → element s mode cap zero parent at n ≡ done f → A
  unfolding element
  no_depth parent at n f q = never (of_headed at {x = element_header mode.live s at} {k = λ h. refused (too_deep at)}
      q).2

  -- An element that was read: its header was, a row was free, and its body holds its children.
  pub record ElementOf (levels parent at n : ℕ) (f : Forest) : Type 0 where
    pub header : Header
    pub head : element_header mode.live s at ≡ heading header
    pub free : full mode cap n ≡ false
    pub kids : Forest
    pub is : f ≡ node (element_of parent header) kids none
    pub inner :
        held at (body_of s (at + header.length) header.size (kind_under header.id parent))
        (siblings (element s mode cap levels header.id) header.size (at + header.length) header.size (n + 1))
        ≡ done kids

  pub of_element : (levels parent at n : ℕ) (f : Forest) → element s mode cap (suc levels) parent at n ≡ done f
      → ElementOf levels parent at n f
  unfolding element
  of_element levels parent at n f q =
      let (h, e, w) = of_headed at {x = element_header mode.live s at} q in
      let o = of_refuse _ _ _ w in
      let (kids, v, a) = of_above (element_of parent h) _ f o.1 in
      record { header = h; head = e; free = o.0; kids = kids; is = a; inner = v }
