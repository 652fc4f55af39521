-- When a read is accepted, and what that depends on: the statements of theorems, each with a wrong reader that it shuts
-- out.
use Rattle.std.specs.Prelude.{ℕ, ◌+◌, ◌-◌, ◌*◌, ◌/◌, ◌≤◌, ◌≡◌, List, ◌++◌, map, Bool, true, length, take, drop}
use Rattle.elements_rules.specs.Forest.{Forest, span, count, deep}
use Rattle.elements_rules.specs.Reading.{done, depths, master_body}
use Rattle.elements_rules.specs.Rows.{rows_at, width, flatten, rows_of}
use Rattle.elements_rules.specs.Stands.{Stands}
use Rattle.elements_rules.specs.Promise.{allowed, zeros, ReadPromise}
use Rattle.elements_rules.specs.declared.row.Row.{Row}
use Rattle.elements_rules.specs.declared.row.Mode.{Mode}
use Rattle.std.specs.Prelude.{Result, Ok}
use Rattle.refusals.specs.declared.refusal.Refusal.{Refusal}

-- ---- accepted exactly if

-- The arguments are allowed. A tree stands in the payload, takes it up, has at most 16 depths and finds rows enough;
-- n is how many it has, and t' is those rows and zeros beyond them.
pub record Acceptable (live : Bool) (s : List ℕ) (start size parent : ℕ) (t : List ℕ) (n : ℕ) (t' : List ℕ) : Type 0
  where
    pub arguments : allowed s start (length t) ≡ true
    pub forest : Forest
    pub stands : Stands live s parent start forest
    pub taken : span forest ≡ size
    pub low : deep forest ≤ depths
    pub number : n ≡ count forest
    pub fits : n ≤ length t / width
    pub table : t' ≡ flatten (rows_at start forest) ++ zeros (length t - n * width)

-- A read is accepted exactly if that holds, and then with just these rows. It shuts out a reader that refuses more than
-- it has to: an element of depth 15, the last row of the table, a master without children.
abbrev pub AcceptedExactly : Type 0
AcceptedExactly =
    (live : Bool) (s : List ℕ) (start size parent : ℕ) (t : List ℕ) (n : ℕ) (t' : List ℕ)
    → (ReadPromise live s start size parent t (Ok n) t' → Acceptable live s start size parent t n t')
    × (Acceptable live s start size parent t n t' → ReadPromise live s start size parent t (Ok n) t')

-- A tree for the reader of a master's body, whose elements have that depth, with n of `cap` rows taken: it stands
-- there, takes up the size, has no more depths than are left and, where rows are kept, finds them free.
pub record ReadableTree (s : List ℕ) (mode : Mode) (cap depth parent at size n : ℕ) (f : Forest) : Type 0 where
  pub stands : Stands mode.live s parent at f
  pub taken : span f ≡ size
  pub low : deep f ≤ depths - depth
  pub free : mode.keep ≡ true → n + count f ≤ cap

-- The same of a master's body, with rows or without. It shuts out a reader that keeps no rows and still counts them: a
-- seek head with many entries would be refused.
abbrev pub BodyExactly : Type 0
BodyExactly =
    (s : List ℕ) (mode : Mode) (cap depth parent at size n : ℕ) (f : Forest) → at ≤ length s
    → (mode.keep ≡ true → n ≤ cap)
    → (master_body s mode cap depth parent at size n ≡ done f → ReadableTree s mode cap depth parent at size n f)
    × (ReadableTree s mode cap depth parent at size n f → master_body s mode cap depth parent at size n ≡ done f)

-- ---- a payload's own bytes

-- Two recordings have the same bytes in a payload, and may differ in every other. If it is accepted in the one, it is
-- in the other, under the same parent id and into a table of the same length: with the same reply and the same table.
-- It shuts out a reader that accepts by what stands behind the payload. Of a refusal it says nothing: a child that
-- overruns the payload is 1, 3 or 7 by the bytes behind it (P11).
abbrev pub OwnBytes : Type 0
OwnBytes =
    (live : Bool) (s s' : List ℕ) (start size parent : ℕ) (t u : List ℕ) (n : ℕ) (t' : List ℕ) (r : Result ℕ Refusal)
    (u' : List ℕ)
    → take size (drop start s) ≡ take size (drop start s') → allowed s' start (length u) ≡ true → length t ≡ length u
    → ReadPromise live s start size parent t (Ok n) t' → ReadPromise live s' start size parent u r u'
    → (r ≡ Ok n) × (u' ≡ t')

-- The row of the same element where the payload begins at start', not at start: its address is as far behind that.
abbrev pub elsewhere : ℕ → ℕ → Row → Row
elsewhere start start' r =
    record {
      id = r.id;
      parent = r.parent;
      address = start' + (r.address - start);
      header = r.header;
      payload = r.payload;
      kind = r.kind;
      depth = r.depth;
      after = r.after;
    }

-- The n rows of two tables are those of one tree, so that they are equal but for the addresses.
pub record OneTree (start start' n : ℕ) (t' u' : List ℕ) : Type 0 where
  pub forest : Forest
  pub here : rows_of t' n ≡ rows_at start forest
  pub there : rows_of u' n ≡ rows_at start' forest
  pub moved : rows_of u' n ≡ map (elsewhere start start') (rows_of t' n)

-- An accepted payload's bytes stand at another place, of this or another recording. There they are accepted too, under
-- the same parent id and into any table with rows enough, and are the same tree. It shuts out a reader that asks where
-- an element stands, as one that takes even addresses alone, and one whose addresses count from the payload's start.
abbrev pub Moves : Type 0
Moves =
    (live : Bool) (s s' : List ℕ) (start start' size parent : ℕ) (t u : List ℕ) (n : ℕ) (t' : List ℕ) (r : Result ℕ Refusal)
    (u' : List ℕ)
    → take size (drop start s) ≡ take size (drop start' s') → allowed s' start' (length u) ≡ true
    → n ≤ length u / width
    → ReadPromise live s start size parent t (Ok n) t' → ReadPromise live s' start' size parent u r u'
    → (r ≡ Ok n) × OneTree start start' n t' u'

-- The same of a master's body, with rows or without: a seek head that is copied to another place is the same tree
-- there.
abbrev pub BodyMoves : Type 0
BodyMoves =
    (s s' : List ℕ) (mode : Mode) (cap depth parent at at' size n : ℕ) (f : Forest) → at ≤ length s → at' ≤ length s'
    → (mode.keep ≡ true → n ≤ cap) → take size (drop at s) ≡ take size (drop at' s')
    → master_body s mode cap depth parent at size n ≡ done f → master_body s' mode cap depth parent at' size n ≡ done f
