-- Two accepted payloads with one table and the same leaf bytes are equal (`Lossless`). Assumes nothing.
use Prim.Native.Nat.{ℕ, ◌+◌, ◌-◌, ◌*◌, ◌≤◌}
use mathlib.Core.Path.{◌≡◌, refl, sym, ap, ◌∙◌, subst}
use mathlib.Core.List.{List, [], ◌∷◌, ◌++◌}
use mathlib.Core.Bool.{Bool, not}
use native.Mathlib.Omega.{arith}
use lib.ListN.{length, get_or, take, drop}
use lib.Seq.{take-add, drop-drop}
use borrow.Author.Tests.{ne_eqb}
use Rattle.header.specs.Header.{heading, header_of}
use Rattle.header.specs.Reads.{headed_at, header_at}
use Rattle.header.specs.Theorems.{Octets}
use Rattle.header.specs.declared.cursor.Header.{Header}
use Rattle.header.proofs.Inside.{header_read_law, header_inside}
use Rattle.header.proofs.Determined.{header_determined}
use Rattle.kinds.specs.Kinds.{number_of}
use Rattle.elements_rules.specs.Forest.{Element, Forest, none, node, whole, span, count}
use Rattle.elements_rules.specs.Rows.{row_of, rows, width, flat, flatten, first_row}
use Rattle.elements_rules.specs.Stands.{StandsAt, Stands}
use Rattle.elements_rules.specs.Promise.{zeros, table_of}
use Rattle.elements_rules.specs.Theorems.{Each, SameLeaf, Sound, Lossless}
use Rattle.elements_rules.specs.declared.row.Row.{Row}
use Rattle.elements_rules.proofs.Parts.{taken_there}
use Rattle.elements_rules.proofs.Bodies.{by_kind}
use Rattle.elements_rules.proofs.Tables.{zeros_at}
use Rattle.elements_rules.proofs.Standing.{read_stands}
use Rattle.elements_rules.proofs.Readback.{table_is, accepted_read}
use Rattle.elements_rules.proofs.Sound.{header_there, rows_sound}
use Rattle.std.proofs.Common.{Ok}

-- ---- parts of two recordings

-- The octets of a recording from an address on.
abbrev part : List ℕ → ℕ → ℕ → List ℕ
part s at n = take n (drop at s)

part_join : (s : List ℕ) (at m n : ℕ) → part s at (m + n) ≡ part s at m ++ part s (at + m) n
part_join s at m n = take-add m n (drop at s) ∙ rw (drop-drop m at s)

same_join : (s s' : List ℕ) (at m n : ℕ) → part s at m ≡ part s' at m → part s (at + m) n ≡ part s' (at + m) n
    → part s at (m + n) ≡ part s' at (m + n)
same_join s s' at m n a b = part_join s at m n ∙ rw (a, b) (sym (part_join s' at m n))

-- ---- what is known of each of some rows, parted

each_left : (P : Row → Type 0) (rs ss : List Row) → Each P (rs ++ ss) → Each P rs
unfolding Each
each_left P [] ss a = tt
each_left P (r ∷ rs) ss a = (a.0, each_left P rs ss a.1)

each_right : (P : Row → Type 0) (rs ss : List Row) → Each P (rs ++ ss) → Each P ss
unfolding Each
each_right P [] ss a = a
each_right P (r ∷ rs) ss a = each_right P rs ss a.1

-- ---- along the tree that was read in the first recording

module _ (live : Bool) (s s' : List ℕ) (o : Octets s) (o' : Octets s') where
  same_header : (at : ℕ) (h : Header) → header_of (drop at s) ≡ heading h
      → header_at s' at ≡ Ok (headed_at at h) → part s at h.length ≡ part s' at h.length
  same_header at h q r =
      header_determined s s' o o' at at (headed_at at h) (headed_at at h) (header_there live s at h q) r refl

  same_payload : (id parent depth at after : ℕ) (e : Element) (kids : Forest) → StandsAt live s id at e kids
      → SameLeaf s s' (row_of e parent depth at after)
      → part s (at + e.header.length) (span kids) ≡ part s' (at + e.header.length) (span kids)
      → part s (at + e.header.length) e.header.size ≡ part s' (at + e.header.length) e.header.size
  same_payload id parent depth at after e kids i leaf k =
      by_kind e.kind (λ m. rw (i.taken m) at k) (λ m. leaf (ap not (ne_eqb (number_of e.kind) 1 m)))

  same_span : (id parent depth at n : ℕ) (f : Forest) → Stands live s id at f
      → Each (Sound s') (rows parent depth at n f) → Each (SameLeaf s s') (rows parent depth at n f)
      → part s at (span f) ≡ part s' at (span f)
  unfolding Stands Each rows span
  same_span id parent depth at n none i a b = refl
  same_span id parent depth at n (node e kids rest) i a b =
      let h = e.header.length in
      let inner = rows (n + 1) (depth + 1) (at + h) (n + 1) kids in
      let others = rows parent depth (at + whole e) (n + 1 + count kids) rest in
      let head = same_header at e.header (taken_there live s at e.header i.0.head) a.0.head in
      let k = same_span e.header.id (n + 1) (depth + 1) (at + h) (n + 1) kids i.1
      (each_left (Sound s') inner others a.1) (each_left (SameLeaf s s') inner others b.1) in
      let p = same_payload id parent depth at (n + 1 + count kids) e kids i.0 b.0 k in
      let r = same_span id parent depth (at + whole e) (n + 1 + count kids) rest i.2
      (each_right (Sound s') inner others a.1) (each_right (SameLeaf s s') inner others b.1) in
      same_join s s' at (whole e) (span rest) (same_join s s' at h e.header.size head p) r

-- ---- one table, one list of rows

HasHeader : Row → Type 0
HasHeader r = 1 ≤ r.header

rows_same : (rs ss : List Row) (m n : ℕ) → Each HasHeader rs → Each HasHeader ss
    → flatten rs ++ zeros m ≡ flatten ss ++ zeros n → rs ≡ ss
unfolding flatten flat first_row Each HasHeader
rows_same [] [] m n a b q = refl
rows_same [] (r ∷ ss) m n a b q =
    let e : get_or (zeros m) 3 0 ≡ r.header = ap (λ (l : List ℕ). get_or l 3 0) q in
    absurd (omega (arith, zeros_at m 3, b.0))
rows_same (r ∷ rs) [] m n a b q =
    let e : r.header ≡ get_or (zeros n) 3 0 = ap (λ (l : List ℕ). get_or l 3 0) q in
    absurd (omega (arith, zeros_at n 3, a.0))
rows_same (r ∷ rs) (r' ∷ ss) m n a b q =
    let e : r ≡ r' = ap first_row q in
    let k : rs ≡ ss = rows_same rs ss m n a.1 b.1 (ap (λ (l : List ℕ). drop width l) q) in
    rw (e, k)

with_headers : (s : List ℕ) (rs : List Row) → Each (Sound s) rs → Each HasHeader rs
unfolding Each HasHeader
with_headers s [] a = tt
with_headers s (r ∷ rs) a =
    let q = (header_read_law s r.address _ a.0.head).0 in
    ((header_inside s r.address _ q).0, with_headers s rs a.1)

-- ---- the theorem

pub lossless : Lossless
lossless live s s' o o' start size parent t u n m t' p q leaves =
    let a = accepted_read live s start size parent t n t' p in
    let b = accepted_read live s' start size parent u m t' q in
    let (w, i) = read_stands live s start size parent (length t) a.forest a.outcome in
    let mine = subst (Each (Sound s)) a.rows_are (rows_sound live s start size parent t n t' p) in
    let theirs = subst (Each (Sound s')) b.rows_are (rows_sound live s' start size parent u m t' q) in
    let one_table = sym (p.table ∙ ap (table_of start (length t)) a.outcome ∙ table_is start (length t) a.forest)
    ∙ (q.table ∙ ap (table_of start (length u)) b.outcome ∙ table_is start (length u) b.forest) in
    let same = rows_same (rows 0 0 start 0 a.forest) (rows 0 0 start 0 b.forest)
    (length t - count a.forest * width) (length u - count b.forest * width)
    (with_headers s _ mine) (with_headers s' _ theirs) one_table in
    let sound = subst (Each (Sound s')) (sym same) theirs in
    let leaf = subst (Each (SameLeaf s s')) a.rows_are leaves in
    rw w at (same_span live s s' o o' parent 0 0 start 0 a.forest i sound leaf)
