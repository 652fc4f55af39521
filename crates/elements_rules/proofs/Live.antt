-- Live mode beside old mode (`BodyLiveOr`, `LiveReads`, `EqualReads`, `RowsKnown`). Assumes nothing.
use Prim.Native.Nat.{ℕ, zero, suc, ◌+◌, ◌-◌, ◌/◌, ◌≤◌}
use mathlib.Core.Path.{◌≡◌, refl, sym, ap, ◌∙◌, subst}
use mathlib.Core.List.{List}
use mathlib.Core.Logic.{◌⊎◌, inl, inr}
use mathlib.Core.Bool.{Bool, true, false, cond, not}
use native.Mathlib.Omega.{arith}
use lib.ListN.{length, drop}
use lib.Dec.{ltb, eqb}
use Rattle.refusals.specs.Refusals.{overrun, no_free_row, unknown_size, bad_argument}
use Rattle.refusals.specs.Reply.{refusal}
use Rattle.refusals.specs.declared.refusal.Refusal.{Refusal}
use Rattle.header.specs.Header.{Heading, heading, header_of}
use Rattle.header.specs.Header.{refused as refused_header}
use Rattle.header.specs.declared.cursor.Header.{Header}
use Rattle.sizes.specs.Unknown.{unknown}
use Rattle.kinds.specs.Kinds.{kind_under}
use Rattle.bodies_rules.specs.Bodies.{Told, body, body_of}
use Rattle.bodies_rules.specs.Bodies.{refused as refused_body}
use Rattle.bodies_rules.specs.declared.body.Body.TheVariants.{Value, Master}
use Rattle.elements_rules.specs.Forest.{Element, Forest, none, node, whole, span, count}
use Rattle.elements_rules.specs.Reading.{Outcome, done, refused, and_then, prepend, above, refuse_if, taken}
use Rattle.elements_rules.specs.Reading.{headed, held, full, siblings, element_of, depths, element}
use Rattle.elements_rules.specs.Reading.{master_body}
use Rattle.elements_rules.specs.Rows.{rows, width}
use Rattle.elements_rules.specs.Stands.{Stands}
use Rattle.elements_rules.specs.Promise.{keeping, allowed, filled, read_of, reply_of, read_told, table_of}
use Rattle.elements_rules.specs.Theorems.{Each}
use Rattle.elements_rules.specs.Faults.{Errand, to_element, reads_header, barred, Unsized, unsized}
use Rattle.elements_rules.specs.Faults.{there, callers, Comes, here, past, into, HonestReading}
use Rattle.elements_rules.specs.Live.{AllKnown, NoneIsAll, LiveOr, seventeen, equal, BodyLiveOr, LiveReads}
use Rattle.elements_rules.specs.Live.{EqualReads, header_of_row, RowsKnown}
use Rattle.elements_rules.specs.declared.row.Mode.{Mode}
use Rattle.elements_rules.proofs.Outcomes.{never}
use Rattle.elements_rules.proofs.Parts.{of_taken, taken_there, known_taken}
use Rattle.elements_rules.proofs.Standing.{read_stands}
use Rattle.elements_rules.proofs.Readback.{accepted_read}
use Rattle.elements_rules.proofs.Sound.{each_append}
use Rattle.elements_rules.proofs.Unique.{replied, replied_back}
use Rattle.elements_rules.proofs.Faults.{body_found, reading_honest}
use Rattle.std.proofs.Common.{Err}

pub none_is_all : NoneIsAll
none_is_all s reached k a x h r y q = k a h q

-- ---- one law for each combinator

pub moved : {o l l' : Outcome} → l' ≡ l → LiveOr o l → LiveOr o l'
moved e (seventeen a q) = seventeen a (e ∙ q)
moved e (equal q) = equal (e ∙ q)

then_or : (o o' : Outcome) (k k' : Forest → Outcome) → LiveOr o o' → ((f : Forest) → LiveOr (k f) (k' f))
    → LiveOr (and_then o k) (and_then o' k')
then_or o o' k k' (seventeen a e) each = seventeen a (ap (λ (x : Outcome). and_then x k') e)
then_or o o' k k' (equal e) each = by o e
  where
    by : (x : Outcome) → o' ≡ x → LiveOr (and_then x k) (and_then o' k')
    by (done f) w = moved (ap (λ (x : Outcome). and_then x k') w) (each f)
    by (refused r) w = equal (ap (λ (x : Outcome). and_then x k') w)

pub test_or : (b : Bool) (e : Refusal) (o o' : Outcome) → LiveOr o o' → LiveOr (refuse_if b e o) (refuse_if b e o')
unfolding refuse_if
test_or true e o o' l = equal refl
test_or false e o o' l = l

prepend_or : (f : Forest) (o o' : Outcome) → LiveOr o o' → LiveOr (prepend f o) (prepend f o')
prepend_or f o o' (seventeen a e) = seventeen a (ap (prepend f) e)
prepend_or f o o' (equal e) = equal (ap (prepend f) e)

above_or : (x : Element) (o o' : Outcome) → LiveOr o o' → LiveOr (above x o) (above x o')
above_or x o o' (seventeen a e) = seventeen a (ap (above x) e)
above_or x o o' (equal e) = equal (ap (above x) e)

held_or : (at : ℕ) (t : Told) (o o' : Outcome) → LiveOr o o' → LiveOr (held at t o) (held at t o')
held_or at (body Master) o o' l = l
held_or at (body (Value v)) o o' l = equal refl
held_or at (refused_body c) o o' l = equal refl

choice_or : (b : Bool) (x o o' : Outcome) → LiveOr o o' → LiveOr (cond b x o) (cond b x o')
choice_or true x o o' l = equal refl
choice_or false x o o' l = l

-- The header step: 17, or the same header.
headed_or : (at : ℕ) (x : Heading) (k k' : Header → Outcome) → ((h : Header) → LiveOr (k h) (k' h))
    → LiveOr (headed at (taken false x) k) (headed at (taken true x) k')
headed_or at (refused_header c) k k' each = equal refl
headed_or at (heading h) k k' each = by (unknown h) refl
  where
    by : (b : Bool) → unknown h ≡ b → LiveOr (k h) (headed at (taken true (heading h)) k')
    by true e = seventeen at (rw e)
    by false e = moved (rw e) (each h)

siblings_or : (read read' : ℕ → ℕ → Outcome) → ((at n : ℕ) → LiveOr (read at n) (read' at n))
    → (most at left n : ℕ) → LiveOr (siblings read most at left n) (siblings read' most at left n)
unfolding siblings
siblings_or read read' each zero at left n = equal refl
siblings_or read read' each (suc most) at left n =
    choice_or (eqb left 0) (done none) _ _
    (then_or (read at n) (read' at n) _ _ (each at n) (λ f.
    test_or (ltb left (span f)) (overrun at) _ _
    (prepend_or f _ _ (siblings_or read read' each most (at + span f) (left - span f) (n + count f)))))

-- ---- elements

module _ (s : List ℕ) (keep : Bool) (cap : ℕ) where
  abbrev old : Mode
  old = record { keep = keep; live = false }

  abbrev new : Mode
  new = record { keep = keep; live = true }

  element_or : (levels parent at n : ℕ) → LiveOr (element s old cap levels parent at n)
      (element s new cap levels parent at n)
  unfolding element full
  element_or zero parent at n = headed_or at (header_of (drop at s)) _ _ (λ h. equal refl)
  element_or (suc levels) parent at n =
      headed_or at (header_of (drop at s)) _ _ (λ h.
      test_or (full old cap n) (no_free_row at) _ _
      (above_or (element_of parent h) _ _
      (held_or at (body_of s (at + h.length) h.size (kind_under h.id parent)) _ _
      (siblings_or (element s old cap levels h.id) (element s new cap levels h.id)
      (element_or levels h.id) h.size (at + h.length) h.size (n + 1)))))

  -- What live mode reads old mode reads too.
  accepted_or : {o l : Outcome} (f : Forest) → LiveOr o l → l ≡ done f → o ≡ done f
  accepted_or f (seventeen a e) q = never (sym e ∙ q)
  accepted_or f (equal e) q = sym e ∙ q

  -- Where the reader comes in live mode it comes in old mode, and what is barred there has an unknown size.
  pub record ComesOld (depth parent at size n a : ℕ) (x : Errand) : Type 0 where
    pub errand : Errand
    pub comes : Comes s old cap depth parent at size n a errand
    pub reads : reads_header errand ≡ true
    pub bars : (h : Header) → barred x h ≡ unknown h

  pub comes_old : (depth parent at size n a : ℕ) (x : Errand) → Comes s new cap depth parent at size n a x
      → ComesOld depth parent at size n a x
  unfolding full
  comes_old depth parent at size n a x (here _ _ _ _ _ l) = record {
    errand = to_element old cap parent depth n size;
    comes = here depth parent at size n l;
    reads = refl;
    bars = λ h. refl;
  }
  comes_old depth parent at size n a x (past _ _ _ _ _ _ _ f q l more) =
      let c = comes_old depth parent (at + span f) (size - span f) (n + count f) a x more in
      let o = accepted_or f (element_or (depths - depth) parent at n) q in
      record {
        errand = c.errand;
        comes = past depth parent at size n a c.errand f o l c.comes;
        reads = c.reads;
        bars = c.bars;
      }
  comes_old depth parent at size n a x (into _ _ _ _ _ _ _ h l d q f m more) =
      let c = comes_old (depth + 1) h.id (at + h.length) h.size (n + 1) a x more in
      let o = known_taken false s at h (taken_there true s at h q) refl in
      record {
        errand = c.errand;
        comes = into depth parent at size n a c.errand h l d o f m c.comes;
        reads = c.reads;
        bars = c.bars;
      }

pub body_live_or : BodyLiveOr
unfolding master_body
body_live_or s keep cap depth parent at size n =
    siblings_or _ _ (element_or s keep cap (depths - depth) parent) size at size n

-- A reader that comes to known sizes alone does not come to one that is barred.
never_barred : (s : List ℕ) (keep : Bool) (cap depth parent at size n a : ℕ) (x : Errand)
    → AllKnown s (Comes s (record { keep = keep; live = false }) cap depth parent at size n)
    → Comes s (record { keep = keep; live = true }) cap depth parent at size n a x → Unsized s a x → ⊥
never_barred s keep cap depth parent at size n a x k c (unsized h w b) =
    let o = comes_old s keep cap depth parent at size n a x c in
    let y = sym (k a o.errand h o.comes o.reads w) ∙ sym (o.bars h) ∙ b in
    let z : ◌≡◌ {A = ℕ} 0 1 = cc in
    omega arith

-- If no header that is read in old mode has an unknown size, a master's body is the same in live mode.
pub body_known : (s : List ℕ) (keep : Bool) (cap depth parent at size n : ℕ) → depth ≤ depths
    → AllKnown s (Comes s (record { keep = keep; live = false }) cap depth parent at size n)
    → master_body s (record { keep = keep; live = true }) cap depth parent at size n
    ≡ master_body s (record { keep = keep; live = false }) cap depth parent at size n
body_known s keep cap depth parent at size n d k = by (body_live_or s keep cap depth parent at size n)
  where
    by : LiveOr (master_body s (record { keep = keep; live = false }) cap depth parent at size n)
        (master_body s (record { keep = keep; live = true }) cap depth parent at size n)
        → master_body s (record { keep = keep; live = true }) cap depth parent at size n
        ≡ master_body s (record { keep = keep; live = false }) cap depth parent at size n
    by (seventeen a e) =
        let f = body_found s (record { keep = keep; live = true }) cap depth parent at size n (unknown_size a) d e in
        absurd (never_barred s keep cap depth parent at size n a f.errand k f.reached f.fault)
    by (equal e) = e

-- ---- the public read

pub filled_or : (s : List ℕ) (start size parent numbers : ℕ)
    → LiveOr (filled false s start size parent numbers) (filled true s start size parent numbers)
unfolding filled
filled_or s start size parent numbers = body_live_or s true (numbers / width) 0 parent start size 0

pub read_or : (s : List ℕ) (start size parent numbers : ℕ)
    → LiveOr (read_of false s start size parent numbers) (read_of true s start size parent numbers)
unfolding read_of
read_or s start size parent numbers =
    test_or (not (allowed s start numbers)) bad_argument _ _ (filled_or s start size parent numbers)

pub live_reads : LiveReads
live_reads s start size parent t r r' t' u' p q = by (read_or s start size parent (length t))
  where
    by : LiveOr (read_of false s start size parent (length t)) (read_of true s start size parent (length t))
        → ((a : ℕ) × (r' ≡ Err (unknown_size a))) ⊎ ((r' ≡ r) × (u' ≡ t'))
    by (seventeen a e) = inl (a, sym (replied_back r') ∙ ap replied (q.reply ∙ ap reply_of e))
    by (equal e) =
        inr (
          sym (replied_back r') ∙ ap replied (q.reply ∙ ap reply_of e ∙ sym p.reply) ∙ replied_back r,
          q.table ∙ ap (table_of start (length t)) e ∙ sym p.table,
        )

-- A payload in which all sizes that are read are known is not 17.
pub known_reading : (s : List ℕ) (start size parent numbers a : ℕ)
    → AllKnown s (Comes s (keeping false) (numbers / width) 0 parent start size 0)
    → read_of true s start size parent numbers ≡ refused (unknown_size a) → ⊥
known_reading s start size parent numbers a k q =
    by (reading_honest true s start size parent numbers (unknown_size a) q)
  where
    by : HonestReading true s start size parent numbers (unknown_size a) → ⊥
    by (there f) =
        never_barred s true (numbers / width) 0 parent start size 0 a f.errand k f.reached f.fault
    by (callers (inl z) e) = let y : ◌≡◌ {A = ℕ} 0 1 = cc in omega arith
    by (callers (inr z) e) = let y : ◌≡◌ {A = ℕ} 0 1 = cc in omega arith

-- 17 is given behind 14.
was_allowed : (s : List ℕ) (start size parent numbers a : ℕ)
    → read_of true s start size parent numbers ≡ refused (unknown_size a) → allowed s start numbers ≡ true
unfolding read_of refuse_if
was_allowed s start size parent numbers a q = by (allowed s start numbers) refl q
  where
    by : (b : Bool) → allowed s start numbers ≡ b
        → refuse_if (not b) bad_argument (filled true s start size parent numbers) ≡ refused (unknown_size a)
        → allowed s start numbers ≡ true
    by true k w = k
    by false k w =
        let i : bad_argument ≡ unknown_size a = cc in
        let c = ap (λ (r : Refusal). r.cause) i in
        let z : ◌≡◌ {A = ℕ} 0 1 = cc in
        absurd (let y : ⊥ = omega arith in y)

pub equal_reads : EqualReads
equal_reads s start size parent t r r' t' u' k p q = by (live_reads s start size parent t r r' t' u' p q)
  where
    by : ((a : ℕ) × (r' ≡ Err (unknown_size a))) ⊎ ((r' ≡ r) × (u' ≡ t')) → (r' ≡ r) × (u' ≡ t')
    by (inl (a, e)) = absurd (refused_so a (read_of true s start size parent (length t)) refl (ap read_told (sym e)
        ∙ q.reply))
      where
        refused_so : (a : ℕ) (o : Outcome) → read_of true s start size parent (length t) ≡ o
            → refusal (unknown_size a) ≡ reply_of o → ⊥
        refused_so a (done f) w v = let z : ◌≡◌ {A = ℕ} 0 1 = cc in omega arith
        refused_so a (refused e) w v =
            let i : e ≡ unknown_size a = cc in
            let v = w ∙ ap refused i in
            known_reading s start size parent (length t) a (k (was_allowed s start size parent (length t) a v)) v
    by (inr z) = z

-- ---- rows

rows_known_of : (s : List ℕ) (id parent depth at n : ℕ) (f : Forest) → Stands true s id at f
    → Each (λ r. unknown (header_of_row r) ≡ false) (rows parent depth at n f)
unfolding Each rows Stands
rows_known_of s id parent depth at n none i = tt
rows_known_of s id parent depth at n (node e kids rest) i = (
  (of_taken true (header_of (drop at s)) e.header i.0.head).1,
  each_append (λ r. unknown (header_of_row r) ≡ false) (rows (n + 1) (depth + 1) (at + e.header.length) (n + 1) kids) _
      (rows_known_of s e.header.id (n + 1) (depth + 1) (at + e.header.length) (n + 1) kids i.1)
      (rows_known_of s id parent depth (at + whole e) _ rest i.2),
)

pub rows_known : RowsKnown
rows_known s start size parent t n t' p =
    let a = accepted_read true s start size parent t n t' p in
    let (w, i) = read_stands true s start size parent (length t) a.forest a.outcome in
    subst (Each (λ r. unknown (header_of_row r) ≡ false)) (sym a.rows_are)
    (rows_known_of s parent 0 0 start 0 a.forest i)
