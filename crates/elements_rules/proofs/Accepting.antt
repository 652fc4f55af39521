-- What stands, takes up its size, is not too deep and finds rows enough is read (`BodyExactly`); so a read is accepted
-- exactly if its payload is such a tree (`AcceptedExactly`). Assumes nothing.
use Prim.Native.Nat.{ℕ, zero, suc, ◌+◌, ◌-◌, ◌*◌, ◌/◌, ◌≤◌, ◌<◌}
use mathlib.Core.Path.{◌≡◌, refl, sym, ap, ◌∙◌}
use mathlib.Core.List.{List, ◌++◌}
use mathlib.Core.Bool.{Bool, true, false, not}
use native.Mathlib.Omega.{arith}
use lib.ListN.{length}
use borrow.Author.Tests.{not-false}
use Rattle.header.proofs.Inside.{header_inside}
use Rattle.bodies_rules.specs.Bodies.{Told, body, refused, body_of}
use Rattle.bodies_rules.specs.declared.body.Body.TheVariants.{Value, Master}
use Rattle.elements_rules.specs.Forest.{Element, Forest, none, node, whole, span, count, deep, join}
use Rattle.elements_rules.specs.Reading.{Outcome, done, held, full, siblings, element, depths}
use Rattle.elements_rules.specs.Reading.{prepend, master_body}
use Rattle.elements_rules.specs.Rows.{rows, width, flatten}
use Rattle.elements_rules.specs.Stands.{IsValue, StandsAt, Stands}
use Rattle.elements_rules.specs.Promise.{keeping, allowed, filled, read_of, reply_of, zeros, table_of, ReadPromise}
use Rattle.elements_rules.specs.Acceptance.{AcceptedExactly, ReadableTree, BodyExactly}
use Rattle.elements_rules.specs.declared.row.Mode.{Mode}
use Rattle.elements_rules.proofs.Parts.{taken_there}
use Rattle.elements_rules.proofs.Outcomes.{passes, of_refuse}
use Rattle.elements_rules.proofs.Bodies.{by_kind, master_body_law}
use Rattle.elements_rules.proofs.Tables.{full_free, full_unkept}
use Rattle.elements_rules.proofs.Standing.{body_stands, read_stands}
use Rattle.elements_rules.proofs.Reading.{stops, child_more}
use Rattle.elements_rules.proofs.Fits.{body_fits}
use Rattle.elements_rules.proofs.Readback.{table_is, accepted_read}
use Rattle.elements_rules.proofs.Depths.{body_low, read_low}
use Rattle.std.proofs.Common.{Ok}

held_value : (at : ℕ) (t : Told) (o : Outcome) → IsValue t → held at t o ≡ done none
held_value at (body (Value v)) o i = refl
held_value at (body Master) o i = absurd i
held_value at (refused c) o i = absurd i

module _ (s : List ℕ) (mode : Mode) (cap : ℕ) where
  row_free : (n : ℕ) → (mode.keep ≡ true → n < cap) → full mode cap n ≡ false
  row_free n l = go mode.keep refl
    where
      go : (b : Bool) → mode.keep ≡ b → full mode cap n ≡ false
      go true k = full_free mode cap n k (l k)
      go false k = full_unkept mode cap n k

  -- An element whose children are read is read.
  element_read : (levels parent at n : ℕ) (e : Element) (kids : Forest) → StandsAt mode.live s parent at e kids
      → (mode.keep ≡ true → n < cap)
      → siblings (element s mode cap levels e.header.id) (span kids) (at + e.header.length) (span kids) (n + 1)
      ≡ done kids
      → element s mode cap (suc levels) parent at n ≡ done (node e kids none)
  unfolding element
  element_read levels parent at n e kids i l q =
      let from = at + e.header.length in
      rw i.head (passes _ _ _ (row_free n l) ∙ rw (← i.kind)
      (by_kind e.kind
      (λ m. rw (master_body_law s from e.header.size e.kind m, ← i.taken m, q))
      (λ m. rw (held_value at (body_of s from e.header.size e.kind) _ (i.value m), i.childless m))))

  -- Elements that stand are read one after another.
  stands_read : (levels parent most at n : ℕ) (f : Forest) → Stands mode.live s parent at f → deep f ≤ levels
      → span f ≤ most → (mode.keep ≡ true → n + count f ≤ cap)
      → siblings (element s mode cap levels parent) most at (span f) n ≡ done f
  unfolding Stands deep span count join
  stands_read levels parent most at n none i d l c = stops (element s mode cap levels parent) most at n
  stands_read zero parent most at n (node e kids rest) i d l c = absurd (omega arith)
  stands_read (suc levels) parent most at n (node e kids rest) i d l c =
      let h = header_inside s at e.header (taken_there mode.live s at e.header i.0.head) in
      let below = stands_read levels e.header.id (span kids) (at + e.header.length) (n + 1) kids i.1
      (omega arith) (omega arith) (λ k. let m = c k in omega arith) in
      let one = element_read levels parent at n e kids i.0 (λ k. let m = c k in omega arith) below in
      let (fewer, z, q) = child_more (element s mode cap (suc levels) parent) most at (whole e + span rest) n
      (node e kids none) (omega arith) l one (omega arith) in
      let others = stands_read (suc levels) parent fewer (at + whole e) (n + count (node e kids none)) rest i.2
      (omega arith) (omega arith) (λ k. let m = c k in omega arith) in
      let u : whole e + span rest - (whole e + 0) ≡ span rest = omega arith in
      let v : at + (whole e + 0) ≡ at + whole e = omega arith in
      q ∙ rw (u, v) (ap (prepend (node e kids none)) others)

  -- What is a tree for the reader of a master's body is read.
  pub body_read : (depth parent at size n : ℕ) (f : Forest) → ReadableTree s mode cap depth parent at size n f
      → master_body s mode cap depth parent at size n ≡ done f
  unfolding master_body
  body_read depth parent at size n f i =
      let q = stands_read (depths - depth) parent (span f) at n f i.stands i.low (omega arith) i.free in
      rw i.taken at q

pub body_exactly : BodyExactly
body_exactly s mode cap depth parent at size n f inside room = (
  λ q.
      let (taken, stands) = body_stands s mode cap depth parent at size n f inside q in
      record {
        stands = stands;
        taken = taken;
        low = body_low s mode cap depth parent at size n f q;
        free = λ k. body_fits s mode k cap depth parent at size n f (room k) q;
      },
  body_read s mode cap depth parent at size n f,
)

-- ---- the public read

pub read_done : (live : Bool) (s : List ℕ) (start size parent numbers : ℕ) (f : Forest) → allowed s start numbers ≡ true
    → Stands live s parent start f → span f ≡ size → deep f ≤ depths → count f ≤ numbers / width
    → read_of live s start size parent numbers ≡ done f
unfolding read_of filled
read_done live s start size parent numbers f a i w d c =
    passes _ _ _ (ap not a)
    ∙ body_read s (keeping live) (numbers / width) 0 parent start size 0 f
    (record { stands = i; taken = w; low = d; free = λ k. omega arith })

-- A tree that was read, as the promise tells it.
pub promised_rows : (live : Bool) (s : List ℕ) (start size parent : ℕ) (t : List ℕ) (f : Forest)
    → read_of live s start size parent (length t) ≡ done f
    → ReadPromise live s start size parent t (Ok (count f)) (table_of start (length t) (done f))
promised_rows live s start size parent t f q =
    record { reply = sym (ap reply_of q); table = sym (ap (table_of start (length t)) q) }

pub accepted_exactly : AcceptedExactly
unfolding read_of
accepted_exactly live s start size parent t n t' = (
  λ p.
      let a = accepted_read live s start size parent t n t' p in
      let (taken, stands) = read_stands live s start size parent (length t) a.forest a.outcome in
      let low = read_low live s start size parent (length t) a.forest a.outcome in
      record {
        arguments = not-false _ (of_refuse _ _ _ a.outcome).0;
        forest = a.forest;
        stands = stands;
        taken = taken;
        low = omega arith;
        number = a.number;
        fits = a.fits;
        table =
            p.table ∙ ap (table_of start (length t)) a.outcome ∙ table_is start (length t) a.forest
            ∙ ap (λ (k : ℕ). flatten (rows 0 0 start 0 a.forest) ++ zeros (length t - k * width)) (sym a.number);
      },
  λ a.
      let n_is = a.number in
      let fits = a.fits in
      let q = read_done live s start size parent (length t) a.forest a.arguments a.stands a.taken a.low
      (omega arith) in
      let p = promised_rows live s start size parent t a.forest q in
      record {
        reply = rw n_is p.reply;
        table = a.table ∙ rw n_is (sym (table_is start (length t) a.forest) ∙ p.table);
      },
)
