-- What is proved of the definitions beside the contracts: the statements of the theorems, each with a wrong reader that
-- it shuts out.
use Rattle.std.specs.Prelude.{ℕ, suc, ◌≤◌, ◌<◌, ◌≡◌, List, [], ◌∷◌, ◌++◌, ◌⊎◌, Bool, true, false, cond, length, take}
use Rattle.refusals.specs.Causes.{cause_number}
use Rattle.refusals.specs.Refusals.{bad_argument, outside}
use Rattle.refusals.specs.Reply.{accepted}
use Rattle.refusals.specs.Theorems.{Listed}
use Rattle.refusals.specs.declared.refusal.Refusal.{Refusal}
use Rattle.kinds.specs.Kinds.{member}
use Rattle.elements_rules.specs.Reading.{element_header}
use Rattle.elements_rules.specs.Holds.{within}
use Rattle.elements_rules.specs.Rows.{row_at, rows_of, nth}
use Rattle.elements_rules.specs.Promise.{allowed, zeros, ReadPromise}
use Rattle.elements_rules.specs.Faults.{Errand, FaultThere}
use Rattle.elements_rules.specs.declared.row.Row.{Row}
use Rattle.places_rules.specs.Promise.{WhosePromise}
use Rattle.places_rules.specs.declared.whose.WhoseRow.TheVariants.{Header as RowHeader, Payload as RowPayload}
use Rattle.owner_rules.specs.Owner.{Owned, chain_to, most_links}
use Rattle.owner_rules.specs.Promise.{owner_reply, OwnerPromise, ChainPromise}
use Rattle.owner_rules.specs.Way.{OwnerWay, OwnedBy, OwnerComes}
use Rattle.owner_rules.specs.declared.owner.Owner.TheVariants.{Header, Payload}
use Rattle.std.specs.Prelude.{Result, Ok, Err}
use Rattle.owner_rules.specs.declared.owner.Owner.{Owner}
use Rattle.places_rules.specs.declared.whose.WhoseRow.{WhoseRow}

-- Any two replies, and chains, that a promise permits to one question are equal (document 01, Strength of the
-- promises). The numbers that stood in the lent slice do not matter, only how many there are.
abbrev pub OneOwned : Type 0
OneOwned =
    (live : Bool) (s : List ℕ) (start size parent x : ℕ) (r r' : Result Owner Refusal)
    → OwnerPromise live s start size parent x r → OwnerPromise live s start size parent x r' → r ≡ r'

abbrev pub OneChain : Type 0
OneChain =
    (live : Bool) (s : List ℕ) (start size parent x : ℕ) (t u : List ℕ) (r r' : Result Owner Refusal) (t' u' : List ℕ)
    → length t ≡ length u
    → ChainPromise live s start size parent x t r t' → ChainPromise live s start size parent x u r' u'
    → (r ≡ r') × (t' ≡ u')

-- ---- every reply is sound by itself

-- 14 for arguments that are not allowed; then 15 for an address outside the payload; else an element that holds the
-- address, or the fault of one that the way leads to (document 02, C-12).
pub data OwnerAnswer (live : Bool) (s : List ℕ) (start size parent x : ℕ) (r : Result Owner Refusal) : Type 0 where
  broken : allowed s start 0 ≡ false → r ≡ Err bad_argument → OwnerAnswer live s start size parent x r
  away :
      allowed s start 0 ≡ true → within start size x ≡ false → r ≡ Err outside
      → OwnerAnswer live s start size parent x r
  owned :
      (o : Owned) → OwnedBy live s start size parent x o → r ≡ owner_reply (accepted o)
      → OwnerAnswer live s start size parent x r
  faulty :
      (e : Refusal) → allowed s start 0 ≡ true → within start size x ≡ true
      → FaultThere s (OwnerComes live s start size parent x) e → r ≡ Err e
      → OwnerAnswer live s start size parent x r

-- Whatever the full read says of the payload, the reply is the one of these that holds, and whichever holds is the
-- reply. The first shuts out a reader that takes bytes of a body for a header, goes into what is no master there, names
-- a master for a byte of its children, or tells a fault that stands behind the address. The second shuts out one that
-- refuses more than it has to, for a body that is not there, an element of depth 15 or a fault off the way, and one
-- that tells 15 where it came to a fault.
abbrev pub OwnerExactly : Type 0
OwnerExactly =
    (live : Bool) (s : List ℕ) (start size parent x : ℕ) (r : Result Owner Refusal)
    → (OwnerPromise live s start size parent x r → OwnerAnswer live s start size parent x r)
    × (OwnerAnswer live s start size parent x r → OwnerPromise live s start size parent x r)

-- The refusals of the question; 17 in live mode alone.
abbrev pub owner_refusals : (live : Bool) → List ℕ
owner_refusals live = 1 ∷ 2 ∷ 3 ∷ 12 ∷ 14 ∷ 15 ∷ cond live (17 ∷ []) []

-- A refusal is one of the list (`Listed`), and of those that the requests name: no body is refused, and no table can be
-- full. It shuts out an old mode that knows unknown sizes.
abbrev pub OwnerRefusals : Type 0
OwnerRefusals =
    (live : Bool) (s : List ℕ) (start size parent x : ℕ) (e : Refusal)
    → OwnerPromise live s start size parent x (Err e)
    → Listed e × (member (cause_number e.cause) (owner_refusals live) ≡ true)

-- Two recordings that have the same headers on the way get the same reply, whatever their other bytes are. It shuts out
-- a reader that looks at a body, or at a header behind the address.
abbrev pub HeadersAlone : Type 0
HeadersAlone =
    (live : Bool) (s s' : List ℕ) (start size parent x : ℕ) (r r' : Result Owner Refusal)
    → allowed s start 0 ≡ true → allowed s' start 0 ≡ true
    → ((masters : List ℕ) (a : ℕ) (e : Errand) → OwnerWay live s x 0 parent start size masters a e
    → element_header live s' a ≡ element_header live s a)
    → OwnerPromise live s start size parent x r → OwnerPromise live s' start size parent x r' → r ≡ r'

-- ---- beside the full question

-- The reply of the full question, with the row told by its header address and its depth in the table.
abbrev pub by_address : List ℕ → Result WhoseRow Refusal → Result Owner Refusal
by_address t (Ok (RowHeader row rows)) = Ok (Header (row_at t row).address (row_at t row).depth)
by_address t (Ok (RowPayload row rows)) = Ok (Payload (row_at t row).address (row_at t row).depth)
by_address t (Err e) = Err e

-- On each payload that the full read accepts, the reply is that of `whose_byte` in the same mode. It shuts out a reader
-- that ends a payload one byte too far, or skips a sibling by its payload alone.
abbrev pub SameOwner : Type 0
SameOwner =
    (live : Bool) (s : List ℕ) (start size parent x : ℕ) (t : List ℕ) (n : ℕ) (u : List ℕ) (w : Result WhoseRow Refusal)
    (t' : List ℕ) (r : Result Owner Refusal)
    → ReadPromise live s start size parent t (Ok n) u → WhosePromise live s start size parent x t w t'
    → OwnerPromise live s start size parent x r → r ≡ by_address t' w

-- The header addresses of a row's parent, its parent's parent and so on, the outermost first.
pub data ParentsOf (rs : List Row) : Row → List ℕ → Type 0 where
  outermost : (r : Row) → r.parent ≡ 0 → ParentsOf rs r []
  below :
      (r : Row) (p : ℕ) (masters : List ℕ) → p < length rs → r.parent ≡ suc p → ParentsOf rs (nth rs p) masters
      → ParentsOf rs r (masters ++ ((nth rs p).address ∷ []))

-- A chain into so many numbers is that of a row and its parents in the table.
pub record ChainOfRow (t : List ℕ) (n row links : ℕ) (c' : List ℕ) : Type 0 where
  pub masters : List ℕ
  pub parents : ParentsOf (rows_of t n) (row_at t row) masters
  pub links_are : c' ≡ take links ((masters ++ ((row_at t row).address ∷ [])) ++ zeros links)

-- Where the full question names a row, the chain is that row and its parents, as far as the slice takes it. It shuts
-- out a reader that leaves a link out, or writes a sibling that it went past.
abbrev pub ChainOfParents : Type 0
ChainOfParents =
    (live : Bool) (s : List ℕ) (start size parent x : ℕ) (t : List ℕ) (row rows : ℕ) (w : Result WhoseRow Refusal) (t' : List ℕ)
    (c : List ℕ) (r : Result Owner Refusal) (c' : List ℕ)
    → WhosePromise live s start size parent x t w t' → (w ≡ Ok (RowHeader row rows)) ⊎ (w ≡ Ok (RowPayload row rows))
    → ChainPromise live s start size parent x c r c' → length c ≤ most_links
    → ChainOfRow t' rows row (length c) c'

-- ---- the chain

-- The chain call beside `owner`: the same reply, and of an owner the chain that leads to it.
pub record ChainLeads
    (live : Bool) (s : List ℕ) (start size parent x : ℕ) (t : List ℕ) (r q : Result Owner Refusal) (t' : List ℕ) : Type 0 where
  pub same : length t ≤ most_links → r ≡ q
  pub long : most_links < length t → r ≡ Err bad_argument
  pub links :
      length t ≤ most_links → (o : Owned) → OwnedBy live s start size parent x o
      → t' ≡ take (length t) (chain_to o ++ zeros (length t))
  pub none : (e : Refusal) → r ≡ Err e → t' ≡ zeros (length t)

-- It shuts out a chain call that refuses a short slice, or leaves a chain behind a refusal.
abbrev pub ChainsLead : Type 0
ChainsLead =
    (live : Bool) (s : List ℕ) (start size parent x : ℕ) (t : List ℕ) (r q : Result Owner Refusal) (t' : List ℕ)
    → ChainPromise live s start size parent x t r t' → OwnerPromise live s start size parent x q
    → ChainLeads live s start size parent x t r q t'
