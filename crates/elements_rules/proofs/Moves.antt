-- What stands moves with its octets. So an accepted read depends on the payload's own bytes alone (`OwnBytes`), and
-- moves with its address (`Moves`, `BodyMoves`). Assumes nothing.
use Prim.Native.Nat.{ℕ, ◌+◌, ◌-◌, ◌/◌, ◌≤◌}
use mathlib.Core.Path.{◌≡◌, refl, sym, ap, ◌∙◌}
use mathlib.Core.List.{List, map, map-append}
use mathlib.Core.Bool.{Bool, true, false, cond, ◌||◌}
use native.Mathlib.Nat.{add_assoc, add-zero}
use native.Mathlib.Omega.{arith}
use lib.ListN.{length, take, drop, length-take, length-drop}
use lib.Seq.{drop-drop}
use lib.Dec.{leb, eqb}
use borrow.Author.Tests.{le-leb}
use Rattle.header.proofs.Moves.{fewer_alike, later_alike, heading_alike}
use Rattle.refusals.specs.declared.refusal.Cause.{Cause}
use Rattle.refusals.specs.declared.refusal.Cause.TheVariants as C
use Rattle.kinds.specs.declared.kind.Kind.{Kind}
use Rattle.kinds.specs.declared.kind.Kind.TheVariants as K
use Rattle.utf8.specs.Utf8.{utf8}
use Rattle.bodies_rules.specs.Bodies.{Told, refused, value, payload, if_there, body_of}
use Rattle.bodies_rules.specs.declared.body.Value.TheVariants.{Text, Bytes}
use Rattle.elements_rules.specs.Forest.{Element, Forest, none, node, whole, span, count}
use Rattle.elements_rules.specs.Reading.{done}
use Rattle.elements_rules.specs.Rows.{rows, width}
use Rattle.elements_rules.specs.Stands.{IsValue, StandsAt, Stands}
use Rattle.elements_rules.specs.Promise.{allowed, read_of, table_of, ReadPromise}
use Rattle.elements_rules.specs.Acceptance.{OwnBytes, elsewhere, Moves, BodyMoves}
use Rattle.header.specs.Header.{header_of}
use Rattle.elements_rules.proofs.Parts.{of_taken, known_taken}
use Rattle.elements_rules.proofs.Limits.{within}
use Rattle.elements_rules.proofs.Bodies.{by_kind}
use Rattle.elements_rules.proofs.Standing.{stands_inside, read_stands}
use Rattle.elements_rules.proofs.Readback.{table_rows, accepted_read}
use Rattle.elements_rules.proofs.Unique.{read_unique}
use Rattle.elements_rules.proofs.Depths.{read_low}
use Rattle.elements_rules.proofs.Accepting.{body_read, body_exactly, read_done, promised_rows}
use Rattle.std.proofs.Common.{Result, Ok}
use Rattle.refusals.specs.declared.refusal.Refusal.{Refusal}

module _ (live : Bool) (s s' : List ℕ) where
  -- The n octets at a place of the one recording stand at a place of the other.
  record Same (at at' n : ℕ) : Type 0 where
    octets : take n (drop at s) ≡ take n (drop at' s')
    here : at + n ≤ length s
    there : at' + n ≤ length s'

  same : (at at' n : ℕ) → at + n ≤ length s → at' ≤ length s' → take n (drop at s) ≡ take n (drop at' s')
      → Same at at' n
  same at at' n i j q =
      let a = length-take n (drop at s) in
      let b = length-take n (drop at' s') in
      let c = ap length q in
      let d = length-drop at s in
      let e = length-drop at' s' in
      record { octets = q; here = i; there = omega arith }

  fewer : (at at' m n : ℕ) → m ≤ n → Same at at' n → Same at at' m
  fewer at at' m n l k =
      let i = k.here in
      let j = k.there in
      record {
        octets = fewer_alike (drop at s) (drop at' s') m n l k.octets;
        here = omega arith;
        there = omega arith;
      }

  later : (at at' k n : ℕ) → Same at at' (k + n) → Same (at + k) (at' + k) n
  later at at' k n e =
      let i = e.here in
      let j = e.there in
      record {
        octets = rw (drop-drop k at s, drop-drop k at' s') at (later_alike (drop at s) (drop at' s') k n e.octets);
        here = omega arith;
        there = omega arith;
      }

  -- ---- a body

  module _ (at at' n : ℕ) (k : Same at at' n) where
    -- A value there, whose octets are there.
    present : (v : Told) → IsValue v → IsValue (if_there s' at' n v)
    present v i = rw (le-leb (at' + n) (length s') k.there) i

    -- What is told under a test and is a value is so under the same test.
    tested : (b : Bool) (u v : Told) (c : Cause) → IsValue v → IsValue (cond b u (refused c))
        → IsValue (cond b v (refused c))
    tested true u v c i j = i
    tested false u v c i j = j

    text_moves : IsValue (body_of s at n K.Utf8) → IsValue (body_of s' at' n K.Utf8)
    unfolding body_of
    text_moves i =
        rw (le-leb (at' + n) (length s') k.there, ← k.octets)
        (tested (utf8 (payload s at n)) (value (Text (record { at = at; length = n })))
        (value (Text (record { at = at'; length = n }))) C.NotUtf8 tt
        (rw (le-leb (at + n) (length s) k.here) at i))

    value_moves : (kind : Kind) → IsValue (body_of s at n kind) → IsValue (body_of s' at' n kind)
    unfolding body_of
    value_moves K.Master i = i
    value_moves K.Int i = tested (leb n 8) _ _ C.InvalidUint (present _ tt) i
    value_moves K.Uint i = tested (leb n 8) _ _ C.InvalidUint (present _ tt) i
    value_moves K.String i = text_moves i
    value_moves K.Utf8 i = text_moves i
    value_moves K.Binary i = present (value (Bytes (record { at = at'; length = n }))) tt
    value_moves K.Float i = tested (eqb n 4 || eqb n 8) _ _ C.InvalidFloat (present _ tt) i
    value_moves K.Date i = tested (eqb n 8) _ _ C.InvalidDate (present _ tt) i

  -- ---- elements

  children_fit : (parent at : ℕ) (e : Element) (kids : Forest) → StandsAt live s parent at e kids
      → span kids ≤ e.header.size
  unfolding span
  children_fit parent at e kids i =
      by_kind e.kind (λ m. let x = i.taken m in omega arith) (λ m. rw (i.childless m) (omega arith))

  moves : (parent at at' : ℕ) (f : Forest) → Stands live s parent at f → Same at at' (span f)
      → Stands live s' parent at' f
  unfolding Stands span
  moves parent at at' none i k = let j = k.there in omega arith
  moves parent at at' (node e kids rest) i k =
      let h = e.header.length in
      let size = e.header.size in
      let there = of_taken live (header_of (drop at s)) e.header i.0.head in
      let all = fewer at at' (h + size) (h + size + span rest) (omega arith) k in
      let head = fewer at at' h (h + size) (omega arith) all in
      let body = later at at' h size all in
      let below = fewer (at + h) (at' + h) (span kids) size (children_fit parent at e kids i.0) body in (
        record {
          head = known_taken live s' at' e.header
              (heading_alike (drop at s) (drop at' s') e.header there.0 head.octets) there.1;
          kind = i.0.kind;
          taken = i.0.taken;
          value = λ m. value_moves (at + h) (at' + h) size body e.kind (i.0.value m);
          childless = i.0.childless;
        },
        moves e.header.id (at + h) (at' + h) kids i.1 below,
        moves parent (at + whole e) (at' + whole e) rest i.2 (later at at' (h + size) (span rest) k),
      )

  -- What stands in the one recording stands in the other where its octets do.
  pub stands_moves : (parent at at' : ℕ) (f : Forest) → at' ≤ length s'
      → take (span f) (drop at s) ≡ take (span f) (drop at' s') → Stands live s parent at f
      → Stands live s' parent at' f
  stands_moves parent at at' f l q i =
      moves parent at at' f i (same at at' (span f) (stands_inside live s parent at f i) l q)

  -- The public read, into a table of any length that has rows enough.
  pub outcome_moves : (start start' size parent numbers numbers' : ℕ) (f : Forest) → allowed s' start' numbers' ≡ true
      → count f ≤ numbers' / width → take size (drop start s) ≡ take size (drop start' s')
      → read_of live s start size parent numbers ≡ done f → read_of live s' start' size parent numbers' ≡ done f
  outcome_moves start start' size parent numbers numbers' f a c q d =
      let (taken, stands) = read_stands live s start size parent numbers f d in
      read_done live s' start' size parent numbers' f a
      (stands_moves parent start start' f (within s' start' numbers' a).inside (rw taken q) stands)
      taken (read_low live s start size parent numbers f d) c

-- ---- the rows of one tree at two places

rows_elsewhere : (start start' parent depth k n : ℕ) (f : Forest)
    → rows parent depth (start' + k) n f ≡ map (elsewhere start start') (rows parent depth (start + k) n f)
unfolding rows
rows_elsewhere start start' parent depth k n none = refl
rows_elsewhere start start' parent depth k n (node e kids rest) =
    let h = e.header.length in
    let back : start + k - start ≡ k = omega arith in
    rw (
      back,
      map-append (elsewhere start start') (rows (n + 1) (depth + 1) (start + k + h) (n + 1) kids) _,
      add_assoc start k h,
      add_assoc start' k h,
      add_assoc start k (whole e),
      add_assoc start' k (whole e),
      rows_elsewhere start start' (n + 1) (depth + 1) (k + h) (n + 1) kids,
      rows_elsewhere start start' parent depth (k + whole e) (n + 1 + count kids) rest,
    )

-- ---- the theorems

module _ (live : Bool) (s s' : List ℕ) (start start' size parent : ℕ) (t u : List ℕ) (n : ℕ) (t' : List ℕ) where
  -- What is permitted of the octets that were moved: the rows of the tree that was read.
  there_too : (f : Forest) → read_of live s start size parent (length t) ≡ done f → n ≡ count f
      → take size (drop start s) ≡ take size (drop start' s') → allowed s' start' (length u) ≡ true
      → n ≤ length u / width → (r : Result ℕ Refusal) (u' : List ℕ) → ReadPromise live s' start' size parent u r u'
      → (r ≡ Ok n) × (u' ≡ table_of start' (length u) (done f))
  there_too f o number same args room r u' q =
      let d = outcome_moves live s s' start start' size parent (length t) (length u) f args (omega arith) same o in
      let (reply, table) = read_unique live s' start' size parent u u r (Ok (count f)) u' _ refl q
      (promised_rows live s' start' size parent u f d) in
      (reply ∙ ap Ok (sym number), table)

pub read_moves : Moves
read_moves live s s' start start' size parent t u n t' r u' same args room p q =
    let a = accepted_read live s start size parent t n t' p in
    let f = a.forest in
    let (reply, table) = there_too live s s' start start' size parent t u n t' f a.outcome a.number same args
    room r u'
    q in
    let there = table_rows live s' start' size parent u n u' f a.number table in
    let moved = rw (add-zero start, add-zero start') at (rows_elsewhere start start' 0 0 0 0 f) in
    (reply, record { forest = f; here = a.rows_are; there = there; moved = there ∙ rw a.rows_are moved })

pub body_moves : BodyMoves
body_moves s s' mode cap depth parent at at' size n f i l room q d =
    let o = (body_exactly s mode cap depth parent at size n f i room).0 d in
    body_read s' mode cap depth parent at' size n f
    (record {
      stands = stands_moves mode.live s s' parent at at' f l (rw o.taken q) o.stands;
      taken = o.taken;
      low = o.low;
      free = o.free;
    })

pub own_bytes : OwnBytes
own_bytes live s s' start size parent t u n t' r u' same args long p q =
    let a = accepted_read live s start size parent t n t' p in
    let f = a.forest in
    let room = rw long at a.fits in
    let (reply, table) = there_too live s s' start start size parent t u n t' f a.outcome a.number same args room
    r u'
    q in
    let other = table ∙ ap (λ (k : ℕ). table_of start k (done f)) (sym long) in
    (reply, other ∙ sym (p.table ∙ ap (table_of start (length t)) a.outcome))
