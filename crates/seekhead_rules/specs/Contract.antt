-- What the functions of `seekhead` promise each other: how the definitions are told by the code's types.
use Rattle.std.specs.Prelude.{ℕ, ◌+◌, ◌-◌, ◌≤◌, ◌<◌, ◌≡◌, List, Bool, length}
use Rattle.header.specs.Promise.{most_bytes}
use Rattle.refusals.specs.declared.refusal.Refusal.{Refusal}
use Rattle.kinds.specs.Kinds.{kind_under}
use Rattle.bodies_rules.specs.Bodies.{body, body_of}
use Rattle.bodies_rules.specs.declared.body.Body.{Body}
use Rattle.elements_rules.specs.Forest.{Forest, none, node, span, join}
use Rattle.elements_rules.specs.Reading.{Outcome, done, refused, element_header_read, depths, element_of, element}
use Rattle.header.specs.Reads.{behind}
use Rattle.seekhead_rules.specs.Seeks.{seek_head_id, without_rows, skimmed, no_seek}
use Rattle.seekhead_rules.specs.Seeks.{with_members}
use Rattle.seekhead_rules.specs.Seeks.{head_of, seek_body, entries}
use Rattle.seekhead_rules.specs.Table.{latest_from, positions_from}
use Rattle.header.specs.declared.cursor.Headed.{Headed}
use Rattle.seekhead_rules.specs.declared.seek.Seek.{Seek}
use Rattle.seekhead_rules.specs.declared.head.Wanted.{Wanted}
use Rattle.seekhead_rules.specs.declared.head.Positions.{Positions}
use Rattle.seekhead_rules.specs.declared.head.Seektable.{Seektable}
use Rattle.seekhead_rules.specs.declared.head.Entries.{Entries}
use Rattle.std.specs.Prelude.{Result, Ok, Err, None}

-- What a reader of an element of a payload asks: a recording within its limit, and an element whose header was read by
-- the element rules.
pub record Taken (live : Bool) (s : List ℕ) (e : Headed) : Type 0 where
  pub small : length s ≤ most_bytes
  pub there : element_header_read live s e.place.at ≡ Ok e

-- The whole payload of an element is in the recording.
abbrev pub Whole : List ℕ → Headed → Type 0
Whole s e = behind e ≤ length s

-- A depth at which an element may stand.
abbrev pub Shallow : ℕ → Type 0
Shallow depth = depth < depths

-- An element at an address that is read without rows, at a depth and under a parent id.
abbrev pub element_at : (live : Bool) → List ℕ → (depth parent at : ℕ) → Outcome
element_at live s depth parent at = element s (without_rows live) 0 (depths - depth) parent at 0

-- A body that was read, and the elements below it.
pub record Holds (live : Bool) (s : List ℕ) (depth parent : ℕ) (e : Headed) (b : Body) : Type 0 where
  pub kids : Forest
  pub holds : element_at live s depth parent e.place.at ≡ done (node (element_of parent e.header) kids none)
  pub is : body b ≡ body_of s e.payload.at e.header.size (kind_under e.header.id parent)
  pub inside : Whole s e

-- What `skim_body` answers: the body and what it holds, or the element's refusal.
pub record Skimmed (live : Bool) (s : List ℕ) (depth parent : ℕ) (e : Headed) (r : Result Body Refusal) : Type 0 where
  pub refusal : (x : Refusal) → r ≡ Err x → element_at live s depth parent e.place.at ≡ refused x
  pub body : (b : Body) → r ≡ Ok b → Holds live s depth parent e b

-- ---- how the readers tell

-- What elements make, or the refusal that their reading stopped with.
abbrev pub told : {A R : Type 0} → (A → R) → (Refusal → R) → (Forest → A) → Outcome → R
told read stop make (done f) = read (make f)
told read stop make (refused e) = stop e

-- What the elements of a payload make of a value, one after another, at a depth and under a parent id: with one more
-- element, and with all of them. A head's children make a table, a Seek's members a Seek.
abbrev pub one_told :
    {A : Type 0} → (depth parent : ℕ) → (List ℕ → ℕ → Forest → A → A) → (live : Bool) → List ℕ → A → Headed
    → Result A Refusal
one_told depth parent make live s a e =
    told Ok Err (λ f. make s e.place.at f a) (element_at live s depth parent e.place.at)

abbrev pub all_told :
    {A : Type 0} → (depth parent : ℕ) → (List ℕ → ℕ → Forest → A → A) → (live : Bool) → List ℕ → A → Headed
    → Result A Refusal
all_told depth parent make live s a e = told Ok Err (λ f. make s e.payload.at f a) (skimmed live s depth parent e)

-- The depth is one that elements have, and the elements may be taken a few at a time.
pub record Gathers {A : Type 0} (depth : ℕ) (make : List ℕ → ℕ → Forest → A → A) : Type 0 where
  pub shallow : depth < depths
  pub nothing : (s : List ℕ) (at : ℕ) (a : A) → make s at none a ≡ a
  pub further :
      (s : List ℕ) (at : ℕ) (f g : Forest) (a : A)
      → make s at (join f g) a ≡ make s (at + span f) g (make s at f a)

-- A Seek with all its members: `seek_body`.
abbrev pub seek_told : (live : Bool) → List ℕ → Headed → Result Seek Refusal
seek_told live s e = told Ok Err (λ f. with_members s e.payload.at f no_seek) (seek_body live s e)

-- A table with more entries, and with those of the elements that begin at an address.
abbrev pub inserted : Wanted → Seektable → List Seek → Seektable
inserted wanted table es =
    record { parts = positions_from wanted table.parts es; head = latest_from seek_head_id table.head es }

unfoldable pub with_entries : List ℕ → Wanted → ℕ → Forest → Seektable → Seektable
with_entries s wanted at f table = inserted wanted table (entries s at f)

-- A table, with the ids that it is of.
abbrev pub entries_more : List ℕ → ℕ → Forest → Entries → Entries
entries_more s at f e = record { wanted = e.wanted; table = with_entries s e.wanted at f e.table }

-- Before a head was read, with the positions by those before.
abbrev pub fresh : Positions → Seektable
fresh parts = record { parts = parts; head = None }

-- The positions with those of a head, and the link to a further one: `head_body`.
abbrev pub head_told : (live : Bool) → List ℕ → Wanted → Positions → Headed → Result Seektable Refusal
head_told live s wanted parts e =
    told Ok Err (λ f. with_entries s wanted e.payload.at f (fresh parts)) (head_of live s e)
