-- The kind of an element by its id and its parent's (document 01, Kinds).
use Rattle.std.specs.Prelude.{ℕ, List, [], ◌∷◌, Bool, true, false, cond, ◌||◌, eqb}
use Rattle.kinds.specs.Elements.{Row, row, elements}
use Rattle.kinds.specs.declared.kind.Kind.{Kind}
use Rattle.kinds.specs.declared.kind.Kind.TheVariants.{Master, Int, Uint, String, Utf8, Binary, Float, Date}

-- Document 01's number of each kind, as a row of the element table holds it.
abbrev pub number_of : Kind → ℕ
number_of Master = 1
number_of Int = 2
number_of Uint = 3
number_of String = 4
number_of Utf8 = 5
number_of Binary = 6
number_of Float = 7
number_of Date = 8

abbrev pub kinds : List Kind
kinds = Master ∷ Int ∷ Uint ∷ String ∷ Utf8 ∷ Binary ∷ Float ∷ Date ∷ []

-- The kind with a number; what is no number of a kind is taken as binary.
abbrev pub numbered : List Kind → ℕ → Kind
numbered [] n = Binary
numbered (k ∷ ks) n = cond (eqb n (number_of k)) k (numbered ks n)

abbrev pub kind_numbered : ℕ → Kind
kind_numbered n = numbered kinds n

-- The kind of the first row with the id; an id in no row is binary.
unfoldable pub kind_in : List Row → ℕ → Kind
kind_in [] id = Binary
kind_in (row i k ∷ rows) id = cond (eqb i id) k (kind_in rows id)

-- The small master sets: a parent, and the only ids that are masters under it.
pub data Small : Type 0 where
  under : ℕ → List ℕ → Small

abbrev pub small_sets : List Small
small_sets =
    -- Info
    under 0x1549A966 (0x6924 ∷ [])
    -- Tracks
    ∷ under 0x1654AE6B (0x6924 ∷ 0xAE ∷ [])
    -- Attachments
    ∷ under 0x1941A469 (0x61A7 ∷ [])
    -- Chapters
    ∷ under 0x1043A770 (0x45B9 ∷ [])
    -- Tags
    ∷ under 0x1254C367 (0x7373 ∷ [])
    ∷ []

-- Whether a number is one of them.
unfoldable pub member : ℕ → List ℕ → Bool
member x [] = false
member x (y ∷ ys) = eqb x y || member x ys

-- Whether an id that is a master stays one under the parent: of a parent with a small set only that set's ids do, of
-- any other parent all do.
unfoldable pub keeps : List Small → ℕ → ℕ → Bool
keeps [] id parent = true
keeps (under p is ∷ sets) id parent = cond (eqb parent p) (member id is) (keeps sets id parent)

abbrev pub stays_master : ℕ → ℕ → Bool
stays_master id parent = keeps small_sets id parent

-- An id that loses its master kind is binary.
unfoldable pub demoted : Kind → Kind
demoted Master = Binary
demoted Int = Int
demoted Uint = Uint
demoted String = String
demoted Utf8 = Utf8
demoted Binary = Binary
demoted Float = Float
demoted Date = Date

-- The kind of an id under a parent id; 0 where there is no parent.
unfoldable pub kind_under : ℕ → ℕ → Kind
kind_under id parent = cond (stays_master id parent) (kind_in elements id) (demoted (kind_in elements id))
