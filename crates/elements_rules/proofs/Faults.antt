-- Refusals are honest (`HeaderHonest`, `BodyHonest`, `ReadHonest`): the fault is at the address, and the reader came
-- there. Assumes nothing.
use Prim.Native.Nat.{ℕ, zero, suc, ◌+◌, ◌-◌, ◌/◌, ◌≤◌, ◌<◌}
use mathlib.Core.Path.{◌≡◌, refl, sym, ap, ◌∙◌, subst}
use mathlib.Core.List.{List}
use mathlib.Core.Logic.{◌⊎◌, inl, inr}
use mathlib.Core.Bool.{Bool, true, false, cond, ◌&&◌, ◌||◌, not}
use native.Mathlib.Omega.{arith}
use lib.ListN.{length, drop}
use lib.Dec.{leb, ltb, eqb}
use borrow.Author.Tests.{eqb-false, ltb-true, ltb-false}
use Rattle.refusals.specs.Refusals.{because, overrun, too_deep, no_free_row, bad_argument}
use Rattle.refusals.specs.Reply.{refusal}
use Rattle.refusals.specs.declared.refusal.Cause.{Cause}
use Rattle.refusals.specs.declared.refusal.Cause.TheVariants as C
use Rattle.refusals.specs.declared.refusal.Refusal.{Refusal}
use Rattle.header.specs.Vint.{Vint, vint, ends, long, vint_of}
use Rattle.header.specs.Header.{Heading, heading, sized, named, header_of}
use Rattle.header.specs.Header.{refused as refused_header}
use Rattle.header.specs.Promise.{most_bytes, header_reply}
use Rattle.header.specs.Promise.{reply_of as header_told}
use Rattle.header.specs.declared.cursor.Header.{Header}
use Rattle.sizes.specs.Unknown.{unknown}
use Rattle.kinds.specs.Kinds.{kind_under}
use Rattle.kinds.specs.declared.kind.Kind.{Kind}
use Rattle.kinds.specs.declared.kind.Kind.TheVariants as K
use Rattle.utf8.specs.Utf8.{utf8}
use Rattle.bodies_rules.specs.Bodies.{Told, body, value, master, body_of, payload, number, if_there, text_of}
use Rattle.bodies_rules.specs.Numbers.{signed_of, float_of}
use Rattle.bodies_rules.specs.Bodies.{refused as refused_body}
use Rattle.bodies_rules.specs.Promise.{body_reply}
use Rattle.bodies_rules.specs.Promise.{reply_of as body_told}
use Rattle.bodies_rules.specs.declared.body.Body.TheVariants.{Value, Master}
use Rattle.bodies_rules.specs.declared.body.Value.{Value as ValueType}
use Rattle.bodies_rules.specs.declared.body.Value.TheVariants.{Integer, Unsigned, Float, Date, Text, Bytes}
use Rattle.elements_rules.specs.Forest.{Forest, none, span, count}
use Rattle.elements_rules.specs.Reading.{Outcome, done, refused, and_then, prepend, above, refuse_if, headed, held}
use Rattle.elements_rules.specs.Reading.{full, siblings, element_header, element_of, depths, element, master_body}
use Rattle.elements_rules.specs.Rows.{width}
use Rattle.elements_rules.specs.Promise.{keeping, allowed, filled, read_of, reply_of}
use Rattle.elements_rules.specs.Faults.{Errand, to_header, to_body, to_element, reads_header, barred}
use Rattle.elements_rules.specs.Faults.{unsized, NoHeader, no_header, NoBody, body_of_element, body_named}
use Rattle.elements_rules.specs.Faults.{larger_element}
use Rattle.elements_rules.specs.Faults.{Deeper, deeper_element, full_element, Fault, FaultThere, Honest, there}
use Rattle.elements_rules.specs.Faults.{callers, Comes, here, past}
use Rattle.elements_rules.specs.Faults.{into, HonestReading, HeaderHonest, BodyHonest, ReadHonest}
use Rattle.elements_rules.specs.declared.row.Mode.{Mode}
use Rattle.elements_rules.proofs.Parts.{of_taken, of_untaken}
use Rattle.elements_rules.proofs.Standing.{is_master}

-- ---- which causes a header and a body have

of_size : (id n : ℕ) (v : Vint) (c : Cause) → sized id n v ≡ refused_header c → (c ≡ C.PastEnd) ⊎ (c ≡ C.InvalidSize)
unfolding sized
of_size id n (vint m value) c q = let z : ◌≡◌ {A = ℕ} 0 1 = cc in absurd (let y : ⊥ = omega arith in y)
of_size id n ends c q = inl (cc)
of_size id n long c q = inr (cc)

module _ (s : List ℕ) (at : ℕ) (x : Errand) where
  -- A header that is refused is the fault that its cause says, whoever reads it.
  pub header_fault : reads_header x ≡ true → (c : Cause) → header_of (drop at s) ≡ refused_header c → Fault s at x c
  unfolding header_of named
  header_fault reads c q = by (vint_of 4 (drop at s)) refl q
    where
      make : (d : Cause) → header_of (drop at s) ≡ refused_header d → NoHeader s at d x
      make d v = no_header reads v

      told : (d : Cause) → c ≡ d → (header_of (drop at s) ≡ refused_header d → Fault s at x d) → Fault s at x c
      told d e f = subst (Fault s at x) (sym e) (f (q ∙ ap refused_header e))

      ended : c ≡ C.PastEnd → Fault s at x c
      ended e = told C.PastEnd e (λ z. inl (make C.PastEnd z))

      of : (c ≡ C.PastEnd) ⊎ (c ≡ C.InvalidSize) → Fault s at x c
      of (inl e) = ended e
      of (inr e) = told C.InvalidSize e (make C.InvalidSize)

      by : (v : Vint) → vint_of 4 (drop at s) ≡ v → named (drop at s) v ≡ refused_header c → Fault s at x c
      by (vint n id) w r = of (of_size id n _ c r)
      by ends w r = ended (cc)
      by long w r = told C.InvalidId (cc) (make C.InvalidId)

-- The same of the step of the element rules: its header is refused, or of unknown size where that is barred.
pub step_fault : (live : Bool) (s : List ℕ) (at : ℕ) (x : Errand) → reads_header x ≡ true
    → ((h : Header) → (live && unknown h) ≡ true → barred x h ≡ true)
    → (c : Cause) → element_header live s at ≡ refused_header c → Fault s at x c
step_fault live s at x reads bars c q =
    of_untaken live (header_of (drop at s)) c q (λ w. header_fault s at x reads c w)
    (λ h w k e. subst (Fault s at x) (sym e) (unsized h w (bars h k)))

module _ (s : List ℕ) (at from n : ℕ) (k : Kind) (x : Errand) where
  -- A body that is refused is the fault that its cause says.
  body_fault : ((c : Cause) → body_of s from n k ≡ refused_body c → NoBody s at c x) → (c : Cause)
      → body_of s from n k ≡ refused_body c → Fault s at x c
  unfolding body_of
  body_fault make c q = by k q
    where
      told : (d : Cause) → d ≡ c → (body_of s from n k ≡ refused_body d → Fault s at x d) → Fault s at x c
      told d e f = subst (Fault s at x) e (f (q ∙ ap refused_body (sym e)))

      gone : C.PastEnd ≡ c → Fault s at x c
      gone e = told C.PastEnd e (λ z. inr (make C.PastEnd z))

      -- a test, and what is told else
      tested : (b : Bool) (t : Told) (d : Cause) → (d ≡ c → Fault s at x c) → (t ≡ refused_body c → Fault s at x c)
          → cond b t (refused_body d) ≡ refused_body c → Fault s at x c
      tested true t d other first r = first r
      tested false t d other first r = other (cc)

      valued : (v : ValueType) → value v ≡ refused_body c → Fault s at x c
      valued v r = let z : ◌≡◌ {A = ℕ} 0 1 = cc in absurd (let y : ⊥ = omega arith in y)

      -- the octets are tested to be there, and then told
      there_told : (v : ValueType) → if_there s from n (value v) ≡ refused_body c → Fault s at x c
      there_told v r = tested (leb (from + n) (length s)) (value v) C.PastEnd gone (valued v) r

      text_told : if_there s from n (text_of s from n) ≡ refused_body c → Fault s at x c
      text_told r =
          tested (leb (from + n) (length s)) (text_of s from n) C.PastEnd gone
          (tested (utf8 (payload s from n)) (value (Text (record { at = from; length = n }))) C.NotUtf8
          (λ z. told C.NotUtf8 z (make C.NotUtf8)) (valued (Text (record { at = from; length = n })))) r

      by : (j : Kind) → body_of s from n j ≡ refused_body c → Fault s at x c
      by K.Master r = let z : ◌≡◌ {A = ℕ} 0 1 = cc in absurd (let y : ⊥ = omega arith in y)
      by K.Int r =
          let v = Integer (signed_of n (number s from n)) in
          tested (leb n 8) (if_there s from n (value v)) C.InvalidUint (λ z. told C.InvalidUint z (make C.InvalidUint))
          (there_told v) r
      by K.Uint r =
          let v = Unsigned (number s from n) in
          tested (leb n 8) (if_there s from n (value v)) C.InvalidUint (λ z. told C.InvalidUint z (make C.InvalidUint))
          (there_told v) r
      by K.String r = text_told r
      by K.Utf8 r = text_told r
      by K.Binary r = there_told (Bytes (record { at = from; length = n })) r
      by K.Float r =
          let v = Float (float_of n (number s from n)) in
          tested (eqb n 4 || eqb n 8) (if_there s from n (value v)) C.InvalidFloat
          (λ z. told C.InvalidFloat z (make C.InvalidFloat)) (there_told v) r
      by K.Date r =
          let v = Date (signed_of n (number s from n)) in
          tested (eqb n 8) (if_there s from n (value v)) C.InvalidDate
          (λ z. told C.InvalidDate z (make C.InvalidDate)) (there_told v) r

-- ---- the way to an element

-- Either part of a test.
pub of_test : {A : Type 0} (b : Bool) (r : Refusal) (o : Outcome) (e : Refusal) → refuse_if b r o ≡ refused e
    → (b ≡ true → r ≡ e → A) → (b ≡ false → o ≡ refused e → A) → A
unfolding refuse_if
of_test true r o e q first other = first refl (cc)
of_test false r o e q first other = other refl q

-- Elements are no refusal.
no_refusal : {A : Type 0} {f : Forest} {e : Refusal} → done f ≡ refused e → A
no_refusal q = let z : ◌≡◌ {A = ℕ} 0 1 = cc in let y : ⊥ = omega arith in absurd y

module _ (s : List ℕ) (mode : Mode) (cap : ℕ) where
  -- Of a payload's elements at a place, which have that depth: a fault that the reader comes to.
  abbrev pub Found : (depth parent at size n : ℕ) → Refusal → Type 0
  Found depth parent at size n e = FaultThere s (Comes s mode cap depth parent at size n) e

  module _ (depth parent : ℕ) where
    abbrev read : ℕ → ℕ → Outcome
    read = element s mode cap (depths - depth) parent

    -- The element at hand is at fault.
    own : (at size n : ℕ) (c : Cause) → 0 < size → Fault s at (to_element mode cap parent depth n size) c
        → Found depth parent at size n (because c at)
    own at size n c l f = record {
      errand = to_element mode cap parent depth n size;
      reached = here depth parent at size n l;
      fault = f;
    }

    -- What is known of the elements behind one.
    abbrev Behind : ℕ → Type 0
    Behind most =
        (at left n : ℕ) (e : Refusal) → siblings read most at left n ≡ refused e → Found depth parent at left n e

    -- One element after another: the first that is refused, or is larger than what was left.
    siblings_found :
        ((at size n : ℕ) (e : Refusal) → 0 < size → read at n ≡ refused e → Found depth parent at size n e)
        → (most : ℕ) → Behind most
    unfolding siblings
    siblings_found each zero at left n e q = no_refusal q
    siblings_found each (suc most) at left n e q =
        by_left (eqb left 0) refl q (siblings_found each most)
      where
        rest : Forest → Outcome
        rest f = siblings read most (at + span f) (left - span f) (n + count f)

        turn : Outcome → Outcome
        turn o = and_then o (λ f. refuse_if (ltb left (span f)) (overrun at) (prepend f (rest f)))

        after : (f : Forest) → read at n ≡ done f → span f ≤ left
            → Behind most
            → (o : Outcome) → rest f ≡ o → prepend f o ≡ refused e → Found depth parent at left n e
        after f k l fewer (done g) w r = no_refusal r
        after f k l fewer (refused e') w r =
            let i : e' ≡ e = cc in
            let found = fewer (at + span f) (left - span f) (n + count f) e (w ∙ ap refused i) in
            record {
              errand = found.errand;
              reached = past depth parent at left n e.address found.errand f k l found.reached;
              fault = found.fault;
            }

        by_read : 0 < left
            → Behind most
            → (o : Outcome) → read at n ≡ o → turn o ≡ refused e → Found depth parent at left n e
        by_read l fewer (refused e') k w =
            let i : e' ≡ e = cc in
            each at left n e l (k ∙ ap refused i)
        by_read l fewer (done f) k w =
            of_test (ltb left (span f)) (overrun at) (prepend f (rest f)) e w
            (λ b i.
            subst (Found depth parent at left n) i
            (own at left n C.Overrun l
            (larger_element mode cap parent depth n left f k (ltb-true left (span f) b))))
            (λ b r. after f k (ltb-false left (span f) b) fewer (rest f) refl r)

        by_left : (b : Bool) → eqb left 0 ≡ b → cond b (done none) (turn (read at n)) ≡ refused e
            → Behind most
            → Found depth parent at left n e
        by_left true k w fewer = no_refusal w
        by_left false k w fewer =
            let some = eqb-false left 0 k in
            by_read (omega (arith, some)) fewer (read at n) refl w

  -- A header that was not read, wherever one is read for an element.
  unread : (depth parent at size n : ℕ) (e : Refusal) (c : Cause) → 0 < size
      → element_header mode.live s at ≡ refused_header c → because c at ≡ e → Found depth parent at size n e
  unread depth parent at size n e c l w i =
      let x = to_element mode cap parent depth n size in
      subst (Found depth parent at size n) i
      (own depth parent at size n c l (step_fault mode.live s at x refl (λ h k. k) c w))

  -- A header that was read, on the errand for an element.
  abbrev Taken : (depth parent at size n : ℕ) → Header → Type 0
  Taken depth parent at size n h =
      (header_of (drop at s) ≡ heading h) × (barred (to_element mode cap parent depth n size) h ≡ false)

  took : (depth parent at size n : ℕ) (h : Header) → element_header mode.live s at ≡ heading h
      → Taken depth parent at size n h
  took depth parent at size n h w = of_taken mode.live (header_of (drop at s)) h w

  -- What is known of elements with so many depths left.
  abbrev Below : ℕ → Type 0
  Below levels =
      (depth parent at size n : ℕ) (e : Refusal) → depths - depth ≡ levels → depth ≤ depths → 0 < size
      → element s mode cap levels parent at n ≡ refused e → Found depth parent at size n e

  -- The element at a place: it is at fault itself, or one below it.
  element_found : (levels : ℕ) → Below levels
  unfolding element
  element_found zero depth parent at size n e k d l q = by (element_header mode.live s at) refl q
    where
      by : (x : Heading) → element_header mode.live s at ≡ x → headed at x (λ h. refused (too_deep at)) ≡ refused e
          → Found depth parent at size n e
      by (refused_header c) w r = unread depth parent at size n e c l w (cc)
      by (heading h) w r =
          let i : too_deep at ≡ e = cc in
          let z : depths ≡ depth = omega arith in
          subst (Found depth parent at size n) i
          (own depth parent at size n C.TooDeep l
          (subst (λ (j : ℕ). Deeper s at (to_element mode cap parent j n size)) z
          (let (a, b) = took depth parent at size n h w in deeper_element mode cap parent n size (h, a, b, tt))))
  element_found (suc levels) depth parent at size n e k d l q =
      by (element_header mode.live s at) refl q (element_found levels)
    where
      inner : Header → Outcome
      inner h = siblings (element s mode cap levels h.id) h.size (at + h.length) h.size (n + 1)

      goes_on : Header → Outcome
      goes_on h =
          above (element_of parent h)
          (held at (body_of s (at + h.length) h.size (kind_under h.id parent)) (inner h))

      -- below a master
      by_inner : (h : Header) → element_header mode.live s at ≡ heading h → full mode cap n ≡ false
          → body_of s (at + h.length) h.size (kind_under h.id parent) ≡ master
          → Below levels
          → (o : Outcome) → inner h ≡ o → above (element_of parent h) o ≡ refused e → Found depth parent at size n e
      by_inner h w f m lower (done kids) u r = no_refusal r
      by_inner h w f m lower (refused e') u r =
          let i : e' ≡ e = cc in
          let j : levels ≡ depths - (depth + 1) = omega arith in
          let u' = rw j at (u ∙ ap refused i) in
          let found =
          siblings_found (depth + 1) h.id (λ a z y x g v.
          lower (depth + 1) h.id a z y x (sym j) (omega arith) g
          (ap (λ (t : ℕ). element s mode cap t h.id a y) j ∙ v))
          h.size (at + h.length) h.size (n + 1) e u' in
          record {
            errand = found.errand;
            reached =
                into depth parent at size n e.address found.errand h l (omega arith) w f
                (is_master s (at + h.length) h.size (kind_under h.id parent) m) found.reached;
            fault = found.fault;
          }

      by_body : (h : Header) → element_header mode.live s at ≡ heading h → full mode cap n ≡ false
          → Below levels
          → (t : Told) → body_of s (at + h.length) h.size (kind_under h.id parent) ≡ t
          → above (element_of parent h) (held at t (inner h)) ≡ refused e → Found depth parent at size n e
      by_body h w f lower (body Master) m r = by_inner h w f m lower (inner h) refl r
      by_body h w f lower (body (Value v)) m r = no_refusal r
      by_body h w f lower (refused_body c) m r =
          let i : because c at ≡ e = cc in
          let x = to_element mode cap parent depth n size in
          subst (Found depth parent at size n) i
          (own depth parent at size n c l
          (body_fault s at (at + h.length) h.size (kind_under h.id parent) x
          (λ b v.
          let (a, g) = took depth parent at size n h w in
          body_of_element mode cap parent depth n size (omega arith) f (h, a, g, v)) c m))

      by : (x : Heading) → element_header mode.live s at ≡ x
          → headed at x (λ h. refuse_if (full mode cap n) (no_free_row at) (goes_on h)) ≡ refused e
          → Below levels
          → Found depth parent at size n e
      by (refused_header c) w r lower = unread depth parent at size n e c l w (cc)
      by (heading h) w r lower =
          of_test (full mode cap n) (no_free_row at) (goes_on h) e r
          (λ b i.
          subst (Found depth parent at size n) i
          (let (a, g) = took depth parent at size n h w in
          own depth parent at size n C.NoFreeRow l
          (full_element mode cap parent depth n size (omega arith) (h, a, g, b))))
          (λ b v. by_body h w b lower (body_of s (at + h.length) h.size (kind_under h.id parent)) refl v)

  -- A master's payload that is refused.
  pub body_found : (depth parent at size n : ℕ) (e : Refusal) → depth ≤ depths
      → master_body s mode cap depth parent at size n ≡ refused e → Found depth parent at size n e
  unfolding master_body
  body_found depth parent at size n e d q =
      siblings_found depth parent (λ a z m x l v. element_found (depths - depth) depth parent a z m x refl d l v)
      size at size n e q

-- ---- the public calls

-- A refusal of a payload that is read with rows.
pub filled_found : (live : Bool) (s : List ℕ) (start size parent numbers : ℕ) (e : Refusal)
    → filled live s start size parent numbers ≡ refused e
    → FaultThere s (Comes s (keeping live) (numbers / width) 0 parent start size 0) e
unfolding filled
filled_found live s start size parent numbers e q =
    body_found s (keeping live) (numbers / width) 0 parent start size 0 e (omega arith) q

pub reading_honest : (live : Bool) (s : List ℕ) (start size parent numbers : ℕ) (e : Refusal)
    → read_of live s start size parent numbers ≡ refused e → HonestReading live s start size parent numbers e
unfolding read_of
reading_honest live s start size parent numbers e q =
    of_test (not (allowed s start numbers)) bad_argument (filled live s start size parent numbers) e q
    (λ b i. subst (HonestReading live s start size parent numbers) i (callers (inl refl) refl))
    (λ b v. there (filled_found live s start size parent numbers e v))

pub read_honest : ReadHonest
read_honest live s start size parent t e t' p =
    by (read_of live s start size parent (length t)) refl p.reply
  where
    by : (o : Outcome) → read_of live s start size parent (length t) ≡ o → refusal e ≡ reply_of o
        → HonestReading live s start size parent (length t) e
    by (done f) k q = let z : ◌≡◌ {A = ℕ} 0 1 = cc in absurd (let y : ⊥ = omega arith in y)
    by (refused e') k q =
        let i : e' ≡ e = cc in
        reading_honest live s start size parent (length t) e (k ∙ ap refused i)

pub header_honest : HeaderHonest
unfolding header_reply
header_honest s at e p = by (leb (length s) most_bytes && leb at (length s)) p.reply
  where
    asked : ℕ → Errand → Type 0
    asked a x = (a ≡ at) × (x ≡ to_header)

    by_heading : (x : Heading) → header_of (drop at s) ≡ x → refusal e ≡ header_told at x → Honest s asked e
    by_heading (heading h) w q = let z : ◌≡◌ {A = ℕ} 0 1 = cc in absurd (let y : ⊥ = omega arith in y)
    by_heading (refused_header c) w q =
        let i : because c at ≡ e = cc in
        subst (Honest s asked) i
        (there (record {
          errand = to_header;
          reached = (refl, refl);
          fault = header_fault s at to_header refl c w;
        }))

    by : (b : Bool) → refusal e ≡ cond b (header_told at (header_of (drop at s))) (refusal bad_argument)
        → Honest s asked e
    by true q = by_heading (header_of (drop at s)) refl q
    by false q = let i : bad_argument ≡ e = cc in subst (Honest s asked) i (callers (inl refl) refl)

pub body_honest : BodyHonest
unfolding body_reply
body_honest s id parent at size address e p = by (leb (length s) most_bytes && leb at (length s)) p.reply
  where
    asked : ℕ → Errand → Type 0
    asked a x = (a ≡ address) × (x ≡ to_body id parent at size address)

    by_body : (x : Told) → body_of s at size (kind_under id parent) ≡ x → refusal e ≡ body_told address x
        → Honest s asked e
    by_body (body b) w q = let z : ◌≡◌ {A = ℕ} 0 1 = cc in absurd (let y : ⊥ = omega arith in y)
    by_body (refused_body c) w q =
        let i : because c address ≡ e = cc in
        subst (Honest s asked) i
        (there (record {
          errand = to_body id parent at size address;
          reached = (refl, refl);
          fault =
              body_fault s address at size (kind_under id parent) (to_body id parent at size address)
              (λ d v. body_named id parent at size v) c w;
        }))

    by : (b : Bool)
        → refusal e ≡ cond b (body_told address (body_of s at size (kind_under id parent))) (refusal bad_argument)
        → Honest s asked e
    by true q = by_body (body_of s at size (kind_under id parent)) refl q
    by false q = let i : bad_argument ≡ e = cc in subst (Honest s asked) i (callers (inl refl) refl)
