-- Each row of an accepted read has its header and its payload in the recording, and a leaf's body is a value
-- (`RowsSound`); the rows are a tree's in preorder (`ReadsATree`). Assumes nothing.
use Prim.Native.Nat.{ℕ, ◌+◌, ◌≤◌}
use mathlib.Core.Path.{◌≡◌, refl, sym, subst}
use mathlib.Core.List.{List, [], ◌∷◌, ◌++◌}
use mathlib.Core.Bool.{Bool, true, false, not}
use native.Mathlib.Omega.{arith}
use lib.ListN.{length, drop}
use lib.Dec.{eqb}
use borrow.Author.Tests.{eqb-false}
use Rattle.header.specs.Header.{heading, header_of}
use Rattle.header.specs.Reads.{headed_at, header_read, header_at}
use Rattle.header.specs.declared.cursor.Header.{Header}
use Rattle.kinds.specs.Kinds.{number_of}
use Rattle.kinds.specs.declared.kind.Kind.{Kind}
use Rattle.kinds.proofs.Numbers.{kind_back}
use Rattle.bodies_rules.specs.Bodies.{body_of}
use Rattle.elements_rules.specs.Forest.{Element, Forest, none, node, whole, count}
use Rattle.elements_rules.specs.Rows.{row_of, rows}
use Rattle.elements_rules.specs.Stands.{IsValue, StandsAt, Stands}
use Rattle.elements_rules.specs.Theorems.{Each, Sound, RowsSound, ReadsATree}
use Rattle.elements_rules.specs.declared.row.Row.{Row}
use Rattle.elements_rules.proofs.Parts.{taken_there}
use Rattle.elements_rules.proofs.Standing.{stands_inside, read_stands}
use Rattle.elements_rules.proofs.Readback.{accepted_read}
use Rattle.std.proofs.Common.{Ok}

pub each_append : (P : Row → Type 0) (rs ss : List Row) → Each P rs → Each P ss → Each P (rs ++ ss)
unfolding Each
each_append P [] ss a b = b
each_append P (r ∷ rs) ss a b = (a.0, each_append P rs ss a.1 b)

pub is_leaf : (k : ℕ) → not (eqb k 1) ≡ true → k ≡ 1 → ⊥
is_leaf k q = go (eqb k 1) refl q
  where
    go : (b : Bool) → eqb k 1 ≡ b → not b ≡ true → k ≡ 1 → ⊥
    go true e w = let z : ◌≡◌ {A = ℕ} 0 1 = cc in absurd (omega arith)
    go false e w = eqb-false k 1 e

module _ (live : Bool) (s : List ℕ) where
  pub header_there : (at : ℕ) (h : Header) → header_of (drop at s) ≡ heading h
      → header_at s at ≡ Ok (headed_at at h)
  unfolding header_at header_read
  header_there at h q = rw q

  row_sound : (id parent depth at after : ℕ) (e : Element) (kids : Forest) → StandsAt live s id at e kids
      → at + whole e ≤ length s → Sound s (row_of e parent depth at after)
  row_sound id parent depth at after e kids i l = record {
    head = header_there at e.header (taken_there live s at e.header i.head);
    inside = omega arith;
    value = λ leaf.
        let v = i.value (is_leaf (number_of e.kind) leaf) in
        let back = sym (kind_back e.kind) in
        subst (λ (k : Kind). IsValue (body_of s (at + e.header.length) e.header.size k)) back v;
  }

  rows_sound_of : (id parent depth at n : ℕ) (f : Forest) → Stands live s id at f
      → Each (Sound s) (rows parent depth at n f)
  unfolding Each rows Stands
  rows_sound_of id parent depth at n none i = tt
  rows_sound_of id parent depth at n (node e kids rest) i =
      let l = stands_inside live s id (at + whole e) rest i.2 in (
        row_sound id parent depth at (n + 1 + count kids) e kids i.0 (omega arith),
        each_append (Sound s) (rows (n + 1) (depth + 1) (at + e.header.length) (n + 1) kids) _
            (rows_sound_of e.header.id (n + 1) (depth + 1) (at + e.header.length) (n + 1) kids i.1)
            (rows_sound_of id parent depth (at + whole e) _ rest i.2),
      )

pub rows_sound : RowsSound
rows_sound live s start size parent t n t' p =
    let a = accepted_read live s start size parent t n t' p in
    let (w, i) = read_stands live s start size parent (length t) a.forest a.outcome in
    subst (λ (rs : List Row). Each (Sound s) rs) (sym a.rows_are)
    (rows_sound_of live s parent 0 0 start 0 a.forest i)

pub reads_a_tree : ReadsATree
reads_a_tree live s start size parent t n t' p =
    let a = accepted_read live s start size parent t n t' p in
    let (w, i) = read_stands live s start size parent (length t) a.forest a.outcome in
    record { forest = a.forest; stands = i; taken = w; number = a.number; preorder = a.rows_are }
