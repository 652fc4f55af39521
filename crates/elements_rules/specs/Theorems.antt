-- What is proved of the definitions beside the contracts: the statements of the theorems.
use Rattle.std.specs.Prelude.{ℕ, suc, ◌+◌, ◌-◌, ◌/◌, ◌≤◌, ◌<◌, ◌≡◌, List, [], ◌∷◌, ◌++◌, ◌⊎◌, Bool, true, cond, length, take, drop, ltb, eqb}
use Rattle.refusals.specs.Refusals.{overrun}
use Rattle.refusals.specs.Theorems.{Listed}
use Rattle.refusals.specs.declared.refusal.Refusal.{Refusal}
use Rattle.header.specs.Reads.{headed_at, header_at}
use Rattle.header.specs.Theorems.{Octets}
use Rattle.kinds.specs.Kinds.{number_of, kind_numbered, kind_under}
use Rattle.bodies_rules.specs.Bodies.{body_of}
use Rattle.elements_rules.specs.Forest.{Forest, none, span, count}
use Rattle.elements_rules.specs.Reading.{done, and_then, prepend, refuse_if, depths, element, master_body}
use Rattle.elements_rules.specs.Rows.{rows_at, width, rows_of, nth, payload_of}
use Rattle.elements_rules.specs.Stands.{IsValue, Stands}
use Rattle.elements_rules.specs.Holds.{is_leaf, holders}
use Rattle.elements_rules.specs.Promise.{ReadPromise}
use Rattle.elements_rules.specs.declared.row.Row.{Row}
use Rattle.elements_rules.specs.declared.row.Mode.{Mode}
use Rattle.std.specs.Prelude.{Result, Ok, Err}

-- Any two replies and tables that the promise permits to one question are equal (document 01, Strength of the
-- promises). The numbers that stood in the lent table do not matter, only how many there are.
abbrev pub OneReply : Type 0
OneReply =
    (live : Bool) (s : List ℕ) (start size parent : ℕ) (t u : List ℕ) (r r' : Result ℕ Refusal) (t' u' : List ℕ)
    → length t ≡ length u
    → ReadPromise live s start size parent t r t' → ReadPromise live s start size parent u r' u' → (r ≡ r') × (t' ≡ u')

-- A refusal that the promise permits is one of the list (`Listed`).
abbrev pub RefusesListed : Type 0
RefusesListed =
    (live : Bool) (s : List ℕ) (start size parent : ℕ) (t : List ℕ) (e : Refusal) (t' : List ℕ)
    → ReadPromise live s start size parent t (Err e) t' → Listed e

-- ---- the table loses nothing

-- Each byte of an accepted payload lies in the header of exactly one row or in the payload of exactly one leaf row; no
-- other byte lies in any. The rows are those that the table holds at exit.
abbrev pub Partition : Type 0
Partition =
    (live : Bool) (s : List ℕ) (start size parent : ℕ) (t : List ℕ) (n : ℕ) (t' : List ℕ)
    → ReadPromise live s start size parent t (Ok n) t'
    → (x : ℕ)
    → (start ≤ x → x < start + size → holders (rows_of t' n) x ≡ 1)
    × (x < start ⊎ start + size ≤ x → holders (rows_of t' n) x ≡ 0)

-- Each row of a list has a property.
unfoldable pub Each : (Row → Type 0) → List Row → Type 0
Each P [] = Unit
Each P (r ∷ rs) = P r × Each P rs

-- A leaf row's payload is the same in two recordings.
abbrev pub SameLeaf : List ℕ → List ℕ → Row → Type 0
SameLeaf s s' r = is_leaf r ≡ true → payload_of s r ≡ payload_of s' r

-- Two accepted payloads of one length, read at one address under one parent id, with the same table and the same bytes
-- in every leaf payload, are equal.
abbrev pub Lossless : Type 0
Lossless =
    (live : Bool) (s s' : List ℕ) → Octets s → Octets s'
    → (start size parent : ℕ) (t u : List ℕ) (n m : ℕ) (t' : List ℕ)
    → ReadPromise live s start size parent t (Ok n) t' → ReadPromise live s' start size parent u (Ok m) t'
    → Each (SameLeaf s s') (rows_of t' n)
    → take size (drop start s) ≡ take size (drop start s')

-- ---- the tree

-- An accepted read is a tree that stands in the payload, and the table's rows are that tree in preorder.
pub record Tree (live : Bool) (s : List ℕ) (start size parent n : ℕ) (t' : List ℕ) : Type 0 where
  pub forest : Forest
  pub stands : Stands live s parent start forest
  pub taken : span forest ≡ size
  pub number : n ≡ count forest
  pub preorder : rows_of t' n ≡ rows_at start forest

abbrev pub ReadsATree : Type 0
ReadsATree =
    (live : Bool) (s : List ℕ) (start size parent : ℕ) (t : List ℕ) (n : ℕ) (t' : List ℕ)
    → ReadPromise live s start size parent t (Ok n) t' → Tree live s start size parent n t'

-- A row beside its parent: a direct row has depth 0 and the kind that the caller's parent id gives; any other has a
-- parent among the rows before it, one depth less, and the kind that the parent's id gives.
pub data Under (parent : ℕ) (before : List Row) (r : Row) : Type 0 where
  direct : r.parent ≡ 0 → r.depth ≡ 0 → r.kind ≡ number_of (kind_under r.id parent) → Under parent before r
  below :
      (p : ℕ) → p < length before → r.parent ≡ suc p → r.depth ≡ suc (nth before p).depth
      → r.kind ≡ number_of (kind_under r.id (nth before p).id) → Under parent before r

-- Each row of `rs` beside its parent, where other rows stand before them.
unfoldable pub Family : ℕ → List Row → List Row → Type 0
Family parent before [] = Unit
Family parent before (r ∷ rs) = Under parent before r × Family parent (before ++ (r ∷ [])) rs

abbrev pub ParentsBefore : Type 0
ParentsBefore =
    (live : Bool) (s : List ℕ) (start size parent : ℕ) (t : List ℕ) (n : ℕ) (t' : List ℕ)
    → ReadPromise live s start size parent t (Ok n) t' → Family parent [] (rows_of t' n)

-- A row of an accepted read: its header stands at its address, header and payload lie in the recording, and a leaf's
-- body is a value, so that it has the size that its kind asks.
pub record Sound (s : List ℕ) (r : Row) : Type 0 where
  pub head :
      header_at s r.address
      ≡ Ok (headed_at r.address (record { id = r.id; size = r.payload; length = r.header }))
  pub inside : r.address + r.header + r.payload ≤ length s
  pub value : is_leaf r ≡ true → IsValue (body_of s (r.address + r.header) r.payload (kind_numbered r.kind))

abbrev pub RowsSound : Type 0
RowsSound =
    (live : Bool) (s : List ℕ) (start size parent : ℕ) (t : List ℕ) (n : ℕ) (t' : List ℕ)
    → ReadPromise live s start size parent t (Ok n) t' → Each (Sound s) (rows_of t' n)

-- The direct rows have depth 0, so no row is deeper than 15.
abbrev pub DepthsAllowed : Type 0
DepthsAllowed =
    (live : Bool) (s : List ℕ) (start size parent : ℕ) (t : List ℕ) (n : ℕ) (t' : List ℕ)
    → ReadPromise live s start size parent t (Ok n) t' → Each (λ r. r.depth < depths) (rows_of t' n)

-- There are no more rows than the table has, and it stays as long as it was.
abbrev pub RowsFit : Type 0
RowsFit =
    (live : Bool) (s : List ℕ) (start size parent : ℕ) (t : List ℕ) (n : ℕ) (t' : List ℕ)
    → ReadPromise live s start size parent t (Ok n) t' → (n ≤ length t / width) × (length t' ≡ length t)

-- ---- the bound of the definition

-- There are never more elements than bytes, so that a master's body is one element after another, with no bound.
abbrev pub BodyUnfolds : Type 0
BodyUnfolds =
    (s : List ℕ) (mode : Mode) (cap depth parent at size n : ℕ)
    → master_body s mode cap depth parent at size n
    ≡ cond (eqb size 0) (done none)
    (and_then (element s mode cap (depths - depth) parent at n) (λ f.
    refuse_if (ltb size (span f)) (overrun at)
    (prepend f (master_body s mode cap depth parent (at + span f) (size - span f) (n + count f)))))
