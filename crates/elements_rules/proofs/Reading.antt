-- One step of the readers, on the definition: an element's cases, and the loop over a master's children. Assumes
-- nothing.
use Prim.Native.Nat.{ℕ, zero, suc, ◌+◌, ◌-◌, ◌/◌, ◌≤◌, ◌<◌}
use Rattle.booleans.proofs.Pairs.{ok_halves}
use mathlib.Core.Path.{◌≡◌, refl, sym, ap, ◌∙◌, subst}
use mathlib.Core.List.{List, [], ◌∷◌}
use mathlib.Core.Bool.{true, false}
use native.Mathlib.Omega.{arith}
use lib.ListN.{length}
use borrow.Author.Tests.{le-ltb, lt-ltb, ne_eqb}
use Rattle.header.specs.Header.{heading}
use Rattle.refusals.specs.Refusals.{because, overrun, too_deep, no_free_row}
use Rattle.header.specs.declared.cursor.Cursor.{Cursor}
use Rattle.header.specs.declared.cursor.Headed.{Headed}
use Rattle.header.specs.declared.cursor.Header.{Header}
use Rattle.refusals.specs.declared.refusal.Cause.{Cause}
use Rattle.refusals.specs.declared.refusal.Refusal.{Refusal}
use Rattle.kinds.specs.Kinds.{number_of, kind_under}
use Rattle.bodies_rules.specs.Bodies.{body_of}
use Rattle.bodies_rules.specs.Reads.{body_read}
use Rattle.elements_rules.specs.Forest.{Element, Forest, none, node, whole, span, count, join}
use Rattle.elements_rules.specs.Reading.{Outcome, done, refused, prepend, above, held, full, siblings, element_of}
use Rattle.elements_rules.specs.Reading.{element_header, element_header_read, element, depths, master_body}
use Rattle.elements_rules.specs.Rows.{row_of, rows, width}
use Rattle.elements_rules.specs.Contract.{step_of, written, closed, Room, Met}
use Rattle.elements_rules.specs.declared.row.Mode.{Mode}
use Rattle.elements_rules.proofs.Outcomes.{never, refuses, passes}
use Rattle.elements_rules.proofs.Parts.{step_read, step_refused}
use Rattle.elements_rules.proofs.Bodies.{master_body_law, held_refused, LeafRead}
use Rattle.elements_rules.proofs.Forests.{join_none, span_join, count_join, rows_join, length_rows, rows_node}
use Rattle.elements_rules.proofs.Forests.{prepend_none, prepend_prepend}
use Rattle.elements_rules.proofs.Tables.{written_none, written_append, length_written, closed_row}
use Rattle.std.proofs.Common.{Result, Ok, Err}

-- ---- an element's cases

module _ (s : List ℕ) (mode : Mode) (cap depth parent at n : ℕ) where
  -- The element by its header: what was told of it at the place.
  abbrev pub element_here : Outcome
  element_here = element s mode cap (depths - depth) parent at n

  pub el_refused : (e : Refusal) → element_header_read mode.live s at ≡ Err e → element_here ≡ refused e
  unfolding element
  el_refused e q = go (depths - depth)
    where
      go : (l : ℕ) → element s mode cap l parent at n ≡ refused e
      go zero = let (h, i) = step_refused mode.live s at e q in rw h (ap refused i)
      go (suc l) = let (h, i) = step_refused mode.live s at e q in rw h (ap refused i)

  module _ (x : Headed) (q : element_header_read mode.live s at ≡ Ok x) where
    abbrev h : Header
    h = x.header

    head : element_header mode.live s at ≡ heading h
    head = (step_read mode.live s at x q).0

    pub el_deep : depths ≤ depth → element_here ≡ refused (too_deep at)
    unfolding element
    el_deep d = let z : depths - depth ≡ 0 = omega arith in rw (z, head)

    module _ (d : depth < depths) where
      levels : depths - depth ≡ suc (depths - (depth + 1))
      levels = omega arith

      pub el_full : full mode cap n ≡ true → element_here ≡ refused (no_free_row at)
      unfolding element
      el_full f = rw (levels, head) (refuses _ _ _ f)

      module _ (f : full mode cap n ≡ false) where
        -- What is left to do where a row is free.
        pub el_body : element_here
            ≡ above (element_of parent h)
            (held at (body_of s (at + h.length) h.size (kind_under h.id parent))
            (master_body s mode cap (depth + 1) h.id (at + h.length) h.size (n + 1)))
        unfolding element master_body
        el_body = rw (levels, head) (passes _ _ _ f)

        pub el_master : number_of (kind_under h.id parent) ≡ 1
            → element_here
            ≡ above (element_of parent h)
            (master_body s mode cap (depth + 1) h.id (at + h.length) h.size (n + 1))
        el_master m = el_body ∙ rw (master_body_law s (at + h.length) h.size (kind_under h.id parent) m)

        pub el_bad : (c : Cause) → body_read (kind_under h.id parent) s (at + h.length) h.size ≡ Err c
            → element_here ≡ refused (because c at)
        el_bad c b = el_body ∙ rw (held_refused s (at + h.length) h.size at (kind_under h.id parent) c
            (master_body s mode cap (depth + 1) h.id (at + h.length) h.size (n + 1)) b)

        pub el_leaf : (after : Cursor)
            → LeafRead s (at + h.length) h.size at (body_of s (at + h.length) h.size (kind_under h.id parent))
            (master_body s mode cap (depth + 1) h.id (at + h.length) h.size (n + 1)) after
            → element_here ≡ done (node (element_of parent h) none none)
        el_leaf after r = el_body ∙ rw r.holds

-- ---- what an answer says of the outcome

pub told_read : (at n : ℕ) (o : Outcome) (m : ℕ) (next : Cursor) → Ok (m, next) ≡ step_of at n o
    → (f : Forest) × (o ≡ done f) × (m ≡ n + count f) × (next ≡ record { at = at + span f })
told_read at n (done f) m next q = (f, refl, (ok_halves q).0, (ok_halves q).1)
told_read at n (refused e) m next q = let z : ◌≡◌ {A = ℕ} 0 1 = cc in absurd (omega arith)

pub told_refused : (at n : ℕ) (o : Outcome) (e : Refusal) → Err e ≡ step_of at n o → o ≡ refused e
told_refused at n (done f) e q = let z : ◌≡◌ {A = ℕ} 0 1 = cc in absurd (omega arith)
told_refused at n (refused e') e q = cc

-- ---- what each return of the readers promises

module _ (s : List ℕ) (mode : Mode) (low parent depth at n : ℕ) (o : Outcome) (t t' : List ℕ) where
  pub met_refused : (e : Refusal) → o ≡ refused e → Met s mode low parent depth at n o t t' (Err e)
  met_refused e q = record {
    reply = sym (ap (step_of at n) q);
    table = λ f w. never (sym q ∙ w);
    goes = λ f w. never (sym q ∙ w);
    room = λ f w. never (sym q ∙ w);
  }

  -- Of one outcome, at one forest, it is enough to say each thing once.
  pub met_done :
      (f : Forest) (c : ℕ) (next : Cursor) → o ≡ done f → c ≡ n + count f → next ≡ record { at = at + span f }
      → t' ≡ written mode t n (rows parent depth at n f)
      → (low ≤ at + span f) × (at + span f ≤ length s) × (c ≤ at + span f)
      → Room mode t c → Met s mode low parent depth at n o t t' (Ok (c, next))
  met_done f c next q ec en w g r = record {
    reply = go (sym (ap (step_of at n) q));
    table = λ x u. let e : f ≡ x = cc in subst (λ (y : Forest). t' ≡ written mode t n (rows parent depth at n y)) e w;
    goes = λ x u. let e : f ≡ x = cc in rw (← e, ← ec) g;
    room = λ x u. let e : f ≡ x = cc in rw (← e, ← ec) r;
  }
    where
      go : Ok (n + count f, record { at = at + span f }) ≡ step_of at n o → Ok (c, next) ≡ step_of at n o
      go z = rw (ec, en) z

-- An element whose row was written.
module _ (s : List ℕ) (mode : Mode) (parent depth at n : ℕ) (e : Element) (t t₁ : List ℕ)
    (w : t₁ ≡ written mode t n (row_of e parent depth at (n + 1) ∷ [])) where
  -- A leaf: its row.
  pub met_leaf : (o : Outcome) (next : Cursor) → o ≡ done (node e none none) → next ≡ record { at = at + whole e }
      → 1 ≤ whole e → at + whole e ≤ length s → n ≤ at → Room mode t (n + 1)
      → Met s mode (at + 1) parent depth at n o t t₁ (Ok (n + 1, next))
  unfolding span count rows
  met_leaf o next q en a i l r =
      let z : at + (whole e + 0) ≡ at + whole e = omega arith in
      let y : n + 1 ≡ n + 1 + 0 = omega arith in
      let v = subst (λ (a : ℕ). t₁ ≡ written mode t n (row_of e parent depth at a ∷ [])) y w in
      met_done s mode (at + 1) parent depth at n o t t₁ (node e none none) (n + 1) next q (omega arith) (rw z en) v
      (omega arith) r

  -- What its body's reader promised.
  abbrev Inner : List ℕ → Outcome → Result (ℕ × Cursor) Refusal → Type 0
  Inner t₂ inner r =
      Met s mode (at + e.header.length) (n + 1) (depth + 1) (at + e.header.length) (n + 1) inner t₁ t₂ r

  pub met_broken : (t₂ t' : List ℕ) (o inner : Outcome) (x : Refusal) → o ≡ above e inner → Inner t₂ inner (Err x)
      → Met s mode (at + 1) parent depth at n o t t' (Err x)
  met_broken t₂ t' o inner x q m =
      met_refused s mode (at + 1) parent depth at n o t t' x
      (q ∙ ap (above e) (told_refused (at + e.header.length) (n + 1) inner x m.reply))

  -- A master: its row, then its body's rows, and then the row's last number.
  met_whole :
      (t₂ t' : List ℕ) (o inner : Outcome) (kids : Forest) (c : ℕ) (next : Cursor) → inner ≡ done kids
      → c ≡ n + 1 + count kids → next ≡ record { at = at + e.header.length + span kids } → o ≡ above e inner
      → 1 ≤ e.header.length → span kids ≡ e.header.size → Inner t₂ inner (Ok (c, next)) → t' ≡ closed mode t₂ n c
      → Met s mode (at + 1) parent depth at n o t t' (Ok (c, next))
  unfolding span count
  met_whole t₂ t' o inner kids c next d k b q l y m u =
      let g = m.goes kids d in
      let row = row_of e parent depth at (n + 1) in
      let same : length t₁ ≡ length t = ap length w ∙ length_written mode t n (row ∷ []) in
      let below = rows (n + 1) (depth + 1) (at + e.header.length) (n + 1) kids in
      let read : t₂ ≡ written mode t n (row ∷ below)
      = m.table kids d ∙ ap (λ (x : List ℕ). written mode x (n + 1) below) w
      ∙ written_append mode t n (row ∷ []) below in
      let v : t' ≡ written mode t n (rows parent depth at n (node e kids none))
      = u ∙ ap (λ (x : List ℕ). closed mode x n c) read ∙ closed_row mode t n e parent depth at (n + 1) c below
      ∙ ap (λ (x : ℕ). written mode t n (row_of e parent depth at x ∷ below)) k
      ∙ ap (written mode t n) (sym (rows_node parent depth at n e kids)) in
      let p : at + e.header.length + span kids ≡ at + (whole e + 0) = omega arith in
      met_done s mode (at + 1) parent depth at n o t t' (node e kids none) c next (q ∙ ap (above e) d) (omega arith)
      (b ∙ ap (λ (x : ℕ). record { at = x }) p) v (omega arith)
      (λ kept. let x = m.room kids d kept in rw (← same) (omega arith))

  pub met_master :
      (t₂ t' : List ℕ) (o inner : Outcome) (c : ℕ) (next : Cursor) → o ≡ above e inner → 1 ≤ e.header.length
      → ((f : Forest) → inner ≡ done f → span f ≡ e.header.size) → Inner t₂ inner (Ok (c, next))
      → t' ≡ closed mode t₂ n c → Met s mode (at + 1) parent depth at n o t t' (Ok (c, next))
  met_master t₂ t' o inner c next q l z m u =
      let (kids, d, k, b) = told_read (at + e.header.length) (n + 1) inner c next m.reply in
      met_whole t₂ t' o inner kids c next d k b q l (z kids d) m u

-- ---- siblings

module _ (read : ℕ → ℕ → Outcome) where
  pub stops : (most at n : ℕ) → siblings read most at 0 n ≡ done none
  unfolding siblings
  stops zero at n = refl
  stops (suc most) at n = refl

  pub child_refused : (most at left n : ℕ) (e : Refusal) → 0 < left → left ≤ most → read at n ≡ refused e
      → siblings read most at left n ≡ refused e
  unfolding siblings
  child_refused zero at left n e a b q = let z : ⊥ = omega arith in absurd z
  child_refused (suc most) at left n e a b q =
      let other : left ≡ 0 → ⊥ = λ z. omega arith in
      simp (ne_eqb _ _ other, q)

  pub child_over : (most at left n : ℕ) (f : Forest) → 0 < left → left ≤ most → read at n ≡ done f → left < span f
      → siblings read most at left n ≡ refused (overrun at)
  unfolding siblings
  child_over zero at left n f a b q o = let z : ⊥ = omega arith in absurd z
  child_over (suc most) at left n f a b q o =
      let other : left ≡ 0 → ⊥ = λ z. omega arith in
      simp (ne_eqb _ _ other, q) (refuses _ _ _ (lt-ltb _ _ o))

  pub child_more : (most at left n : ℕ) (f : Forest) → 0 < left → left ≤ most → read at n ≡ done f → span f ≤ left
      → (fewer : ℕ) × (suc fewer ≡ most)
      × (siblings read most at left n ≡ prepend f (siblings read fewer (at + span f) (left - span f) (n + count f)))
  unfolding siblings
  child_more zero at left n f a b q o = let z : ⊥ = omega arith in absurd z
  child_more (suc most) at left n f a b q o =
      let other : left ≡ 0 → ⊥ = λ z. omega arith in
      (most, refl, simp (ne_eqb _ _ other, q) (passes _ _ _ (le-ltb _ _ o)))

-- ---- the loop over a master's children

-- `ago` are the children read so far; what is left of the definition stands behind them.
pub record Going
    (s t₀ : List ℕ) (mode : Mode) (read : ℕ → ℕ → Outcome) (parent depth from size first : ℕ) (t : List ℕ)
    (place : Cursor) (left n : ℕ) : Type 0 where
  pub ago : Forest
  pub most : ℕ
  pub enough : left ≤ most
  pub rest : siblings read size from size first ≡ prepend ago (siblings read most place.at left n)
  pub number : n ≡ first + count ago
  pub along : place.at ≡ from + span ago
  pub table : t ≡ written mode t₀ first (rows parent depth from first ago)
  pub same : length t ≡ length t₀
  pub inside : place.at ≤ length s
  pub few : n ≤ place.at
  pub room : Room mode t₀ n

-- The table with one child more; the child is a variable, so that `rw` can go by what is known of it.
join_written :
    (mode : Mode) (t₀ t t' : List ℕ) (parent depth from first at n : ℕ) (ago f : Forest)
    → t ≡ written mode t₀ first (rows parent depth from first ago) → n ≡ first + count ago → at ≡ from + span ago
    → t' ≡ written mode t n (rows parent depth at n f)
    → t' ≡ written mode t₀ first (rows parent depth from first (join ago f))
join_written mode t₀ t t' parent depth from first at n ago f w k a v =
    let before = rows parent depth from first ago in
    let l : n ≡ first + length before
    = k ∙ ap (λ (x : ℕ). first + x) (sym (length_rows parent depth from first ago)) in
    v ∙ ap (λ (x : List ℕ). written mode x n (rows parent depth at n f)) w
    ∙ ap (λ (x : ℕ). written mode (written mode t₀ first before) x (rows parent depth at n f)) l
    ∙ written_append mode t₀ first before (rows parent depth at n f)
    ∙ ap (written mode t₀ first) (rw (a, k) (sym (rows_join parent depth from first ago f)))

module _ (s t₀ : List ℕ) (mode : Mode) (read : ℕ → ℕ → Outcome) (parent depth : ℕ) (from : Cursor)
    (size first : ℕ) where
  abbrev whole_body : Outcome
  whole_body = siblings read size from.at size first

  pub going_holds : from.at ≤ length s → first ≤ from.at → Room mode t₀ first
      → Going s t₀ mode read parent depth from.at size first t₀ from size first
  unfolding rows span count
  going_holds i l r = record {
    ago = none;
    most = size;
    enough = omega arith;
    rest = sym (prepend_none whole_body);
    number = omega arith;
    along = omega arith;
    table = sym (written_none mode t₀ first);
    same = refl;
    inside = i;
    few = l;
    room = r;
  }

  module _ (t : List ℕ) (place : Cursor) (left n : ℕ)
      (g : Going s t₀ mode read parent depth from.at size first t place left n) where
    abbrev Whole : List ℕ → Result (ℕ × Cursor) Refusal → Type 0
    Whole t' r = Met s mode from.at parent depth from.at first whole_body t₀ t' r

    pub ends : left ≡ 0 → Whole t (Ok (n, place))
    ends z =
        let e : whole_body ≡ done g.ago
        = g.rest ∙ rw (z, stops read g.most place.at n, join_none g.ago) in
        let k = g.along in
        let i = g.inside in
        let l = g.few in
        met_done s mode from.at parent depth from.at first whole_body t₀ t g.ago n place e g.number
        (ap (λ (x : ℕ). record { at = x }) g.along) g.table (omega arith) g.room

    module _ (t' : List ℕ) (more : 0 < left) where
      abbrev Child : Result (ℕ × Cursor) Refusal → Type 0
      Child r = Met s mode (place.at + 1) parent depth place.at n (read place.at n) t t' r

      pub child_out : (e : Refusal) → Child (Err e) → Whole t' (Err e)
      child_out e m =
          met_refused s mode from.at parent depth from.at first whole_body t₀ t' e
          (g.rest ∙ rw (child_refused read g.most place.at left n e more g.enough
          (told_refused place.at n (read place.at n) e m.reply)))

      module _ (c : ℕ) (next : Cursor) (m : Child (Ok (c, next))) where
        pub child_goes : (place.at + 1 ≤ next.at) × (next.at ≤ length s) × (c ≤ next.at)
        child_goes =
            let (f, q, k, a) = told_read place.at n (read place.at n) c next m.reply in
            let h = m.goes f q in
            let b = ap (λ (x : Cursor). x.at) a in
            omega arith

        pub child_too_long : left < next.at - place.at → Whole t' (Err (overrun place.at))
        child_too_long o =
            let (f, q, k, a) = told_read place.at n (read place.at n) c next m.reply in
            let b = ap (λ (x : Cursor). x.at) a in
            met_refused s mode from.at parent depth from.at first whole_body t₀ t' (overrun place.at)
            (g.rest ∙ rw (child_over read g.most place.at left n f more g.enough q (omega arith)))

        step : (f : Forest) → read place.at n ≡ done f → c ≡ n + count f → next.at ≡ place.at + span f
            → next.at - place.at ≤ left
            → Going s t₀ mode read parent depth from.at size first t' next (left - (next.at - place.at)) c
        step f q k a o =
            let d : span f ≡ next.at - place.at = omega arith in
            let (fewer, e, u) = child_more read g.most place.at left n f more g.enough q (omega arith) in
            let h = child_goes in
            let y : siblings read fewer (place.at + span f) (left - span f) (n + count f)
            ≡ siblings read fewer next.at (left - (next.at - place.at)) c = cc in
            let wr = join_written mode t₀ t t' parent depth from.at first place.at n g.ago f g.table
            g.number g.along (m.table f q) in
            record {
              ago = join g.ago f;
              most = fewer;
              enough = let b = g.enough in omega arith;
              rest =
                  g.rest ∙ ap (prepend g.ago) u
                  ∙ prepend_prepend g.ago f (siblings read fewer (place.at + span f) (left - span f) (n + count f))
                  ∙ ap (prepend (join g.ago f)) y;
              number = omega (arith, g.number, count_join g.ago f);
              along = omega (arith, g.along, span_join g.ago f);
              table = wr;
              same = ap length wr ∙ length_written mode t₀ first _;
              inside = h.1;
              few = h.2;
              room = λ kept. let b = m.room f q kept in subst (λ (x : ℕ). c ≤ x / width) g.same (omega arith);
            }

        pub child_again : next.at - place.at ≤ left
            → Going s t₀ mode read parent depth from.at size first t' next (left - (next.at - place.at)) c
        child_again o =
            let w = told_read place.at n (read place.at n) c next m.reply in
            step w.0 w.1 w.2 (ap (λ (x : Cursor). x.at) w.3) o
