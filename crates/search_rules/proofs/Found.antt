-- What a search says of the heads that it read and of the part that it found (`HeadsAllowed`, `HeadsCounted`,
-- `FoundIsPart`, `FoundIsRead`). Assumes nothing.
use Prim.Native.Nat.{ℕ, ◌/◌, ◌≤◌}
use mathlib.Core.Path.{◌≡◌, refl, sym, ap, ◌∙◌, subst}
use mathlib.Core.List.{List}
use mathlib.Core.Bool.{Bool, true, false, cond, not}
use native.Mathlib.Omega.{arith}
use lib.ListN.{length}
use Rattle.refusals.specs.Refusals.{bad_argument}
use Rattle.refusals.specs.Reply.{accepted}
use Rattle.header.specs.declared.cursor.Headed.{Headed}
use Rattle.elements_rules.specs.Forest.{Forest, count}
use Rattle.elements_rules.specs.Reading.{Outcome, done}
use Rattle.elements_rules.specs.Reading.{refused as unread}
use Rattle.elements_rules.specs.Rows.{rows, width, rows_of}
use Rattle.elements_rules.specs.Promise.{allowed, filled, read_of}
use Rattle.elements_rules.specs.Promise.{reply_of as read_reply, table_of as read_table}
use Rattle.elements_rules.proofs.Readback.{accepted_read}
use Rattle.seekchain_rules.specs.Lookup.{Lookup}
use Rattle.seekchain_rules.specs.Lookup.{found as found_at, absent as absent_at, stopped as stopped_at}
use Rattle.seekchain_rules.specs.Theorems.{GoodHeads}
use Rattle.segments_rules.specs.Segment.{lookup_of}
use Rattle.search_rules.specs.Part.{parent_of, Search, found, absent, refused, on_parent, on_lookup, search_of}
use Rattle.search_rules.specs.Part.{heads_of, reply_of, table_of, part_told, PartPromise}
use Rattle.search_rules.specs.Theorems.{HeadsAllowed, HeadsCounted, FoundBy, FoundIsPart, FoundIsRead}
use Rattle.search_rules.proofs.Trusty.{none_read, Placed, place_trusty, found_part, found_inside}
use Rattle.search_rules.proofs.Finding.{allowed_at, as_search, reading, read_at}
use Rattle.std.proofs.Common.{Option, Some, None}
use Rattle.std.proofs.Common.{Ok}

-- ---- the heads

module _ (live : Bool) (s : List ℕ) (part numbers : ℕ) where
  -- A part that was found keeps the heads of its place; a refusal has none.
  heads_of_reading : (at size : ℕ) (heads : List ℕ) → GoodHeads live s heads → (o : Outcome)
      → GoodHeads live s (heads_of (as_search at size heads o))
  unfolding heads_of
  heads_of_reading at size heads h (done f) = h
  heads_of_reading at size heads h (unread e) = none_read live s

  heads_of_place : (parent : ℕ) (p : Lookup) → Placed live s part p
      → GoodHeads live s (heads_of (on_lookup p (reading live s numbers parent)))
  unfolding heads_of
  heads_of_place parent (found_at e heads) t =
      heads_of_reading e.payload.at e.header.size heads t.1
      (filled live s e.payload.at e.header.size parent numbers)
  heads_of_place parent (absent_at heads) t = t
  heads_of_place parent (stopped_at e) t = none_read live s

pub heads_allowed : HeadsAllowed
unfolding search_of heads_of
heads_allowed live s part numbers = by (not (allowed s 0 numbers)) (parent_of part)
  where
    by : (b : Bool) (x : Option ℕ)
        → GoodHeads live s
        (heads_of
        (cond b (refused bad_argument)
        (on_parent x (refused bad_argument) (λ parent. on_lookup (lookup_of live s part) (reading live s numbers parent)))))
    by true x = none_read live s
    by false (Some parent) = heads_of_place live s part numbers parent (lookup_of live s part) (place_trusty live s part)
    by false None = none_read live s

-- ---- what a reply tells of the search

reply_found : (at size rows n : ℕ) (x : Search) → part_told (Ok (Some (record { at = at; size = size; rows = rows }), n)) ≡ reply_of x
    → (heads : List ℕ) × (f : Forest) × (x ≡ found at size heads f) × (rows ≡ count f) × (n ≡ length heads)
reply_found at size rows n (found at' size' heads f) q = (heads, f, cc, cc, cc)
reply_found at size rows n (absent heads) q = let z : ◌≡◌ {A = ℕ} 0 1 = cc in absurd (omega arith)
reply_found at size rows n (refused e) q = let z : ◌≡◌ {A = ℕ} 0 1 = cc in absurd (omega arith)

reply_absent : (n : ℕ) (x : Search) → part_told (Ok (None, n)) ≡ reply_of x
    → (heads : List ℕ) × (x ≡ absent heads) × (n ≡ length heads)
reply_absent n (found at size heads f) q = let z : ◌≡◌ {A = ℕ} 0 1 = cc in absurd (omega arith)
reply_absent n (absent heads) q = (heads, refl, cc)
reply_absent n (refused e) q = let z : ◌≡◌ {A = ℕ} 0 1 = cc in absurd (omega arith)

pub heads_counted : HeadsCounted
unfolding heads_of
heads_counted live s part t t' = (
  (λ at size rows n p.
      let (heads, f, q, r, l) = reply_found at size rows n (search_of live s part (length t)) p.reply in
      l ∙ sym (ap (λ (x : Search). length (heads_of x)) q)),
  (λ n p.
      let (heads, q, l) = reply_absent n (search_of live s part (length t)) p.reply in
      l ∙ sym (ap (λ (x : Search). length (heads_of x)) q)),
)

-- ---- what was found

-- What stands behind a part that a search found.
record Sought (live : Bool) (s : List ℕ) (part numbers at size : ℕ) (heads : List ℕ) (f : Forest) : Type 0 where
  parent : ℕ
  within : allowed s 0 numbers ≡ true
  named : parent_of part ≡ Some parent
  element : Headed
  place : lookup_of live s part ≡ found_at element heads
  payload : element.payload.at ≡ at
  sized : element.header.size ≡ size
  read : filled live s at size parent numbers ≡ done f

module _ (live : Bool) (s : List ℕ) (part numbers at size : ℕ) (heads : List ℕ) (f : Forest) where
  sought_read : (parent : ℕ) (e : Headed) (hs : List ℕ) → allowed s 0 numbers ≡ true → parent_of part ≡ Some parent
      → lookup_of live s part ≡ found_at e hs
      → (o : Outcome) → filled live s e.payload.at e.header.size parent numbers ≡ o
      → as_search e.payload.at e.header.size hs o ≡ found at size heads f
      → Sought live s part numbers at size heads f
  sought_read parent e hs a i p (done g) k w =
      let x : e.payload.at ≡ at = cc in
      let y : e.header.size ≡ size = cc in
      let z : hs ≡ heads = cc in
      let v : g ≡ f = cc in
      record {
        parent = parent;
        within = a;
        named = i;
        element = e;
        place = p ∙ ap (found_at e) z;
        payload = x;
        sized = y;
        read = rw (← x, ← y, ← v) k;
      }
  sought_read parent e hs a i p (unread r) k w = let z : ◌≡◌ {A = ℕ} 0 1 = cc in absurd (omega arith)

  sought_at : (parent : ℕ) → allowed s 0 numbers ≡ true → parent_of part ≡ Some parent
      → (p : Lookup) → lookup_of live s part ≡ p
      → on_lookup p (reading live s numbers parent) ≡ found at size heads f → Sought live s part numbers at size heads f
  sought_at parent a i (found_at e hs) p w =
      sought_read parent e hs a i p (filled live s e.payload.at e.header.size parent numbers) refl w
  sought_at parent a i (absent_at hs) p w = let z : ◌≡◌ {A = ℕ} 0 1 = cc in absurd (omega arith)
  sought_at parent a i (stopped_at e) p w = let z : ◌≡◌ {A = ℕ} 0 1 = cc in absurd (omega arith)

  sought : search_of live s part numbers ≡ found at size heads f → Sought live s part numbers at size heads f
  unfolding search_of
  sought = by (allowed s 0 numbers) refl (parent_of part) refl
    where
      by : (b : Bool) → allowed s 0 numbers ≡ b → (x : Option ℕ) → parent_of part ≡ x
          → cond (not b) (refused bad_argument)
          (on_parent x (refused bad_argument) (λ parent. on_lookup (lookup_of live s part) (reading live s numbers parent)))
          ≡ found at size heads f
          → Sought live s part numbers at size heads f
      by true a (Some parent) i w = sought_at parent a i (lookup_of live s part) refl w
      by true a None i w = let z : ◌≡◌ {A = ℕ} 0 1 = cc in absurd (omega arith)
      by false a x i w = let z : ◌≡◌ {A = ℕ} 0 1 = cc in absurd (omega arith)

-- Its payload starts in the recording.
starts : (live : Bool) (s : List ℕ) (part numbers at size : ℕ) (heads : List ℕ) (f : Forest)
    → Sought live s part numbers at size heads f
    → at ≤ length s
starts live s part numbers at size heads f g = omega
    (arith, found_inside live s part g.element heads g.place, g.payload)

pub found_is_part : FoundIsPart
unfolding heads_of
found_is_part live s part t at size rows n t' p =
    let (heads, f, q, r, l) = reply_found at size rows n (search_of live s part (length t)) p.reply in
    let g = sought live s part (length t) at size heads f q in
    let b = found_part live s part g.element heads g.place in
    let by : FoundBy live s part at size heads = record {
      part = b.part;
      payload = b.payload ∙ g.payload;
      sized = b.sized ∙ g.sized;
      segment = b.segment;
      is_segment = b.is_segment;
      way = b.way;
    } in
    subst (λ (hs : List ℕ). FoundBy live s part at size hs) (sym (ap heads_of q)) by

-- A part is read under one parent.
same_parent : (a b : ℕ) {x : (Option ℕ)} → x ≡ Some a → x ≡ Some b → a ≡ b
same_parent a b p q = cc

pub found_is_read : FoundIsRead
unfolding table_of
found_is_read live s part parent t at size rows n t' p i =
    let (heads, f, q, r, l) = reply_found at size rows n (search_of live s part (length t)) p.reply in
    let g = sought live s part (length t) at size heads f q in
    let a = allowed_at s at (length t) g.within (starts live s part (length t) at size heads f g) in
    let e : g.parent ≡ parent = same_parent g.parent parent g.named i in
    let o : read_of live s at size parent (length t) ≡ done f
    = read_at live s at size parent (length t) a
    ∙ subst (λ (x : ℕ). filled live s at size x (length t) ≡ done f) e g.read in
    record {
      reply = ap accepted r ∙ sym (ap read_reply o);
      table = p.table ∙ ap (table_of (length t)) q ∙ sym (ap (read_table at (length t)) o);
    }

-- What the table of a part that was found holds: the rows of its elements, and no more than it has room for.
pub record Holding (live : Bool) (s : List ℕ) (part numbers at size n : ℕ) (t' : List ℕ) : Type 0 where
  pub heads : List ℕ
  pub forest : Forest
  pub searched : search_of live s part numbers ≡ found at size heads forest
  pub counted : n ≡ count forest
  pub rows_are : rows_of t' n ≡ rows 0 0 at 0 forest
  pub fits : n ≤ numbers / width

-- A payload has one reading.
same_forest : (f g : Forest) {o : Outcome} → o ≡ done f → o ≡ done g → f ≡ g
same_forest f g p q = cc

pub found_holds :
    (live : Bool) (s : List ℕ) (part : ℕ) (t : List ℕ) (at size n heads : ℕ) (t' : List ℕ)
    → PartPromise live s part t (Ok (Some (record { at = at; size = size; rows = n }), heads)) t' → Holding live s part (length t) at size n t'
found_holds live s part t at size n k t' p =
    let (heads, f, q, r, l) = reply_found at size n k (search_of live s part (length t)) p.reply in
    let g = sought live s part (length t) at size heads f q in
    let i = found_is_read live s part g.parent t at size n k t' p g.named in
    let a = accepted_read live s at size g.parent t n t' i in
    let w = allowed_at s at (length t) g.within (starts live s part (length t) at size heads f g) in
    let e = same_forest f a.forest (read_at live s at size g.parent (length t) w ∙ g.read) a.outcome in
    record {
      heads = heads;
      forest = f;
      searched = q;
      counted = r;
      rows_are = a.rows_are ∙ ap (rows 0 0 at 0) (sym e);
      fits = a.fits;
    }
