-- What is proved of the C face beside the contracts: the statements of the theorems.
use Rattle.std.specs.Prelude.{ℕ, ◌+◌, ◌/◌, ◌≤◌, ◌≡◌, List, Bool, true, false, length}
use Rattle.refusals.specs.Causes.{cause_number, cause_id}
use Rattle.refusals.specs.Refusals.{bad_argument}
use Rattle.refusals.specs.Reply.{Reply, accepted, refusal}
use Rattle.refusals.specs.declared.refusal.Refusal.{Refusal}
use Rattle.elements_rules.specs.Rows.{width}
use Rattle.elements_rules.specs.Promise.{keeping, zeros}
use Rattle.elements_rules.specs.Faults.{Errand, Honest, Comes}
use Rattle.places_rules.specs.Payload.{payload_range}
use Rattle.places_rules.specs.Promise.{values_of, RangePromise, WhosePromise}
use Rattle.places_rules.specs.Whose.{whose_of}
use Rattle.places_rules.specs.declared.whose.WhoseRow.TheVariants.{Header, Payload}
use Rattle.owner_rules.specs.Promise.{OwnerPromise, ChainPromise}
use Rattle.owner_rules.specs.Way.{OwnerComes}
use Rattle.search_rules.specs.Part.{reply_of, PartPromise}
use Rattle.search_rules.specs.Faults.{SearchComes}
use Rattle.open_rules.specs.Tables.{Tables, sizes_of, zeroed}
use Rattle.open_rules.specs.Promise.{OpenPromise}
use Rattle.open_rules.specs.Faults.{OpenComes}
use Rattle.open_rules.specs.Promise.{reply_of as open_reply}
use Rattle.open_rules.specs.declared.parts.Parts.{Parts}
use Rattle.shown_rules.specs.Shown.{text_range}
use Rattle.shown_rules.specs.Promise.{TextPromise}
use Rattle.viewer_rules.specs.Modes.{chosen_mode, search_in, asked_in, owner_in, chain_in, open_in}
use Rattle.viewer_rules.specs.Faces.{part_face, place_face, owned_face, opened_face}
use Rattle.viewer_rules.specs.Promise.{UzPartPromise, UzRangePromise, UzTextPromise, UzPlacePromise}
use Rattle.viewer_rules.specs.Promise.{UzOwnerPromise, UzChainPromise, UzOpenPromise}
use Rattle.viewer_rules.specs.declared.opened.UzFound.{UzFound}
use Rattle.viewer_rules.specs.declared.opened.UzOpened.{UzOpened}
use Rattle.viewer_rules.specs.declared.owned.UzOwned.{UzOwned}
use Rattle.viewer_rules.specs.declared.part.UzPart.{UzPart}
use Rattle.viewer_rules.specs.declared.range.UzRange.{UzRange}
use Rattle.viewer_rules.specs.declared.whose.UzPlace.{UzPlace}
use Rattle.std.specs.Prelude.{Result, Option, Ok, Err, Some, None}
use Rattle.owner_rules.specs.declared.owner.Owner.{Owner}
use Rattle.bodies_rules.specs.declared.body.Range.{Range}
use Rattle.places_rules.specs.declared.whose.WhoseRow.{WhoseRow}
use Rattle.search_rules.specs.declared.part.Part.{Part}

-- Any two answers and tables that a promise permits to one question are equal (document 01, Strength of the promises).
-- The numbers that stood in the lent table do not matter, only how many there are.
abbrev pub OneUzPart : Type 0
OneUzPart =
    (mode : ℕ) (s : List ℕ) (part : ℕ) (t u : List ℕ) (r r' : UzPart) (t' u' : List ℕ) → length t ≡ length u
    → UzPartPromise mode s part t r t' → UzPartPromise mode s part u r' u' → (r ≡ r') × (t' ≡ u')

abbrev pub OneUzRange : Type 0
OneUzRange =
    (s t : List ℕ) (row : ℕ) (r r' : UzRange) → UzRangePromise s t row r → UzRangePromise s t row r' → r ≡ r'

abbrev pub OneUzText : Type 0
OneUzText =
    (s t : List ℕ) (row : ℕ) (r r' : UzRange) → UzTextPromise s t row r → UzTextPromise s t row r' → r ≡ r'

abbrev pub OneUzPlace : Type 0
OneUzPlace =
    (mode : ℕ) (s : List ℕ) (start size parent x : ℕ) (t u : List ℕ) (r r' : UzPlace) (t' u' : List ℕ)
    → length t ≡ length u
    → UzPlacePromise mode s start size parent x t r t' → UzPlacePromise mode s start size parent x u r' u'
    → (r ≡ r') × (t' ≡ u')

abbrev pub OneUzOwner : Type 0
OneUzOwner =
    (mode : ℕ) (s : List ℕ) (start size parent x : ℕ) (r r' : UzOwned)
    → UzOwnerPromise mode s start size parent x r → UzOwnerPromise mode s start size parent x r' → r ≡ r'

abbrev pub OneUzChain : Type 0
OneUzChain =
    (mode : ℕ) (s : List ℕ) (start size parent x : ℕ) (t u : List ℕ) (r r' : UzOwned) (t' u' : List ℕ)
    → length t ≡ length u
    → UzChainPromise mode s start size parent x t r t' → UzChainPromise mode s start size parent x u r' u'
    → (r ≡ r') × (t' ≡ u')

abbrev pub OneUzOpen : Type 0
OneUzOpen =
    (mode : ℕ) (s : List ℕ) (t u : Tables) (r r' : UzOpened) (t' u' : Tables) → sizes_of t ≡ sizes_of u
    → UzOpenPromise mode s t r t' → UzOpenPromise mode s u r' u' → (r ≡ r') × (t' ≡ u')

-- ---- `refused` tells a refusal

abbrev pub Accepts : {A : Type 0} → Reply A → Type 0
Accepts (accepted values) = Unit
Accepts (refusal e) = ⊥

-- What crosses as `refused` is 0 exactly if the reply accepts, and else a number of the list, 1 to 15 or 17: no refusal
-- has the number 0, so that a C caller who tests `refused` misses none.
pub record Tells {A : Type 0} (reply : Reply A) (refused : ℕ) : Type 0 where
  pub listed : refused ≤ 17
  pub but : refused ≡ 16 → ⊥
  pub accepts : refused ≡ 0 → Accepts reply
  pub zero : Accepts reply → refused ≡ 0

abbrev pub PartTells : Type 0
PartTells =
    (mode : ℕ) (s : List ℕ) (part : ℕ) (t : List ℕ) (r : UzPart) (t' : List ℕ)
    → UzPartPromise mode s part t r t' → Tells (reply_of (search_in mode s part (length t))) r.refused

abbrev pub RangeTells : Type 0
RangeTells =
    (s t : List ℕ) (row : ℕ) (r : UzRange)
    → UzRangePromise s t row r → Tells (values_of (payload_range s t row)) r.refused

abbrev pub TextTells : Type 0
TextTells =
    (s t : List ℕ) (row : ℕ) (r : UzRange)
    → UzTextPromise s t row r → Tells (values_of (text_range s t row)) r.refused

abbrev pub PlaceTells : Type 0
PlaceTells =
    (mode : ℕ) (s : List ℕ) (start size parent x : ℕ) (t : List ℕ) (r : UzPlace) (t' : List ℕ)
    → UzPlacePromise mode s start size parent x t r t'
    → Tells (whose_of start x (asked_in mode s start size parent x (length t))) r.refused

abbrev pub OwnerTells : Type 0
OwnerTells =
    (mode : ℕ) (s : List ℕ) (start size parent x : ℕ) (r : UzOwned)
    → UzOwnerPromise mode s start size parent x r → Tells (owner_in mode s start size parent x) r.refused

abbrev pub ChainTells : Type 0
ChainTells =
    (mode : ℕ) (s : List ℕ) (start size parent x : ℕ) (t : List ℕ) (r : UzOwned) (t' : List ℕ)
    → UzChainPromise mode s start size parent x t r t'
    → Tells (chain_in mode s start size parent x (length t)) r.refused

-- The reply of `open` as one that accepts or refuses.
abbrev pub open_told : Result (Parts × ℕ) Refusal → Reply Parts
open_told (Ok (parts, heads)) = accepted parts
open_told (Err e) = refusal e

abbrev pub OpenTells : Type 0
OpenTells =
    (mode : ℕ) (s : List ℕ) (t : Tables) (r : UzOpened) (t' : Tables)
    → UzOpenPromise mode s t r t' → Tells (open_told (open_reply (open_in mode s (sizes_of t)))) r.refused

-- An id crosses with 8 alone: what a C caller finds in `id` beside another number, or beside none, is 0.
abbrev pub IdAlone : Type 0
IdAlone =
    (mode : ℕ) (s : List ℕ) (part : ℕ) (t : List ℕ) (r : UzPart) (t' : List ℕ)
    → UzPartPromise mode s part t r t' → (r.id ≡ 0 → ⊥) → r.refused ≡ 8

abbrev pub OpenIdAlone : Type 0
OpenIdAlone =
    (mode : ℕ) (s : List ℕ) (t : Tables) (r : UzOpened) (t' : Tables)
    → UzOpenPromise mode s t r t' → (r.id ≡ 0 → ⊥) → r.refused ≡ 8

-- ---- where it broke (document 02, C-12)

-- The number and the address of a refusal cross together, and it is honest: the fault is there, or it is 14 or 15 and
-- the address is 0.
pub record Broke (s : List ℕ) (Reached : ℕ → Errand → Type 0) (refused at : ℕ) : Type 0 where
  pub told : Refusal
  pub number : refused ≡ cause_number told.cause
  pub address : at ≡ told.address
  pub honest : Honest s Reached told

-- With a refusal that holds, and without one the address is 0. It shuts out a face that leaves the address of an
-- earlier refusal, or tells that of the part.
pub record TellsWhere (s : List ℕ) (Reached : ℕ → Errand → Type 0) (refused at : ℕ) : Type 0 where
  pub broke : (refused ≡ 0 → ⊥) → Broke s Reached refused at
  pub fine : refused ≡ 0 → at ≡ 0

-- Where a call comes in the mode that was chosen: nowhere without one.
abbrev pub ComesIn : Option Bool → (Bool → ℕ → Errand → Type 0) → ℕ → Errand → Type 0
ComesIn (Some live) Comes a x = Comes live a x
ComesIn None Comes a x = ⊥

abbrev pub PartTellsWhere : Type 0
PartTellsWhere =
    (mode : ℕ) (s : List ℕ) (part : ℕ) (t : List ℕ) (r : UzPart) (t' : List ℕ)
    → UzPartPromise mode s part t r t' → TellsWhere s
    (ComesIn (chosen_mode mode) (λ live. SearchComes live s part (length t))) r.refused r.refused_at

abbrev pub PlaceTellsWhere : Type 0
PlaceTellsWhere =
    (mode : ℕ) (s : List ℕ) (start size parent x : ℕ) (t : List ℕ) (r : UzPlace) (t' : List ℕ)
    → UzPlacePromise mode s start size parent x t r t'
    → TellsWhere s
    (ComesIn (chosen_mode mode) (λ live. Comes s (keeping live) (length t / width) 0 parent start size 0)) r.refused
    r.refused_at

abbrev pub OwnerTellsWhere : Type 0
OwnerTellsWhere =
    (mode : ℕ) (s : List ℕ) (start size parent x : ℕ) (r : UzOwned)
    → UzOwnerPromise mode s start size parent x r
    → TellsWhere s (ComesIn (chosen_mode mode) (λ live. OwnerComes live s start size parent x)) r.refused
    r.refused_at

abbrev pub ChainTellsWhere : Type 0
ChainTellsWhere =
    (mode : ℕ) (s : List ℕ) (start size parent x : ℕ) (t : List ℕ) (r : UzOwned) (t' : List ℕ)
    → UzChainPromise mode s start size parent x t r t'
    → TellsWhere s (ComesIn (chosen_mode mode) (λ live. OwnerComes live s start size parent x)) r.refused
    r.refused_at

abbrev pub OpenTellsWhere : Type 0
OpenTellsWhere =
    (mode : ℕ) (s : List ℕ) (t : Tables) (r : UzOpened) (t' : Tables)
    → UzOpenPromise mode s t r t'
    → TellsWhere s (ComesIn (chosen_mode mode) (λ live. OpenComes live s (sizes_of t))) r.refused r.refused_at

-- ---- each number crosses under its own name

-- The reply of the call behind each function, name by name.
abbrev pub part_named : Result (Option Part × ℕ) Refusal → UzPart
part_named (Ok (Some p, heads)) =
    record { refused = 0; id = 0; refused_at = 0; found = 1; at = p.at; size = p.size; rows = p.rows; heads = heads }
part_named (Ok (None, heads)) =
    record { refused = 0; id = 0; refused_at = 0; found = 0; at = 0; size = 0; rows = 0; heads = heads }
part_named (Err e) =
    record {
      refused = cause_number e.cause;
      id = cause_id e.cause;
      refused_at = e.address;
      found = 0;
      at = 0;
      size = 0;
      rows = 0;
      heads = 0;
    }

abbrev pub range_named : Result Range Refusal → UzRange
range_named (Ok r) = record { refused = 0; at = r.at; length = r.length }
range_named (Err e) = record { refused = cause_number e.cause; at = 0; length = 0 }

abbrev pub place_named : Result WhoseRow Refusal → UzPlace
place_named (Ok (Header row rows)) = record { refused = 0; refused_at = 0; row = row; in_payload = 0; rows = rows }
place_named (Ok (Payload row rows)) = record { refused = 0; refused_at = 0; row = row; in_payload = 1; rows = rows }
place_named (Err e) =
    record { refused = cause_number e.cause; refused_at = e.address; row = 0; in_payload = 0; rows = 0 }

abbrev pub PartNamed : Type 0
PartNamed =
    (mode : ℕ) (live : Bool) (s : List ℕ) (part : ℕ) (t : List ℕ) (q : Result (Option Part × ℕ) Refusal) (r : UzPart) (t' u' : List ℕ)
    → chosen_mode mode ≡ Some live → PartPromise live s part t q t' → UzPartPromise mode s part t r u' → r ≡ part_named q

abbrev pub RangeNamed : Type 0
RangeNamed =
    (s t : List ℕ) (row : ℕ) (q : Result Range Refusal) (r : UzRange)
    → RangePromise s t row q → UzRangePromise s t row r → r ≡ range_named q

abbrev pub TextNamed : Type 0
TextNamed =
    (s t : List ℕ) (row : ℕ) (q : Result Range Refusal) (r : UzRange)
    → TextPromise s t row q → UzTextPromise s t row r → r ≡ range_named q

abbrev pub PlaceNamed : Type 0
PlaceNamed =
    (mode : ℕ) (live : Bool) (s : List ℕ) (start size parent x : ℕ) (t : List ℕ) (q : Result WhoseRow Refusal) (r : UzPlace)
    (t' u' : List ℕ)
    → chosen_mode mode ≡ Some live → WhosePromise live s start size parent x t q t'
    → UzPlacePromise mode s start size parent x t r u' → r ≡ place_named q

abbrev pub OwnerNamed : Type 0
OwnerNamed =
    (mode : ℕ) (live : Bool) (s : List ℕ) (start size parent x : ℕ) (q : Result Owner Refusal) (r : UzOwned)
    → chosen_mode mode ≡ Some live → OwnerPromise live s start size parent x q
    → UzOwnerPromise mode s start size parent x r → r ≡ owned_face q

-- The chain is the very same too.
abbrev pub ChainNamed : Type 0
ChainNamed =
    (mode : ℕ) (live : Bool) (s : List ℕ) (start size parent x : ℕ) (t : List ℕ) (q : Result Owner Refusal) (r : UzOwned)
    (t' u' : List ℕ)
    → chosen_mode mode ≡ Some live → ChainPromise live s start size parent x t q t'
    → UzChainPromise mode s start size parent x t r u'
    → (r ≡ owned_face q) × (u' ≡ t')

-- The five parts, each under its own name.
abbrev pub found_named : Option Part → UzFound
found_named None = record { found = 0; at = 0; size = 0; rows = 0 }
found_named (Some p) = record { found = 1; at = p.at; size = p.size; rows = p.rows }

abbrev pub open_named : Result (Parts × ℕ) Refusal → UzOpened
open_named (Ok (parts, heads)) = record {
  refused = 0;
  id = 0;
  refused_at = 0;
  heads = heads;
  info = found_named parts.info;
  tracks = found_named parts.tracks;
  attachments = found_named parts.attachments;
  chapters = found_named parts.chapters;
  tags = found_named parts.tags;
}
open_named (Err e) = record {
  refused = cause_number e.cause;
  id = cause_id e.cause;
  refused_at = e.address;
  heads = 0;
  info = found_named None;
  tracks = found_named None;
  attachments = found_named None;
  chapters = found_named None;
  tags = found_named None;
}

-- The five tables are the very same too.
abbrev pub OpenNamed : Type 0
OpenNamed =
    (mode : ℕ) (live : Bool) (s : List ℕ) (t : Tables) (q : Result (Parts × ℕ) Refusal) (r : UzOpened) (t' u' : Tables)
    → chosen_mode mode ≡ Some live → OpenPromise live s t q t' → UzOpenPromise mode s t r u'
    → (r ≡ open_named q) × (u' ≡ t')

-- ---- a number that names no mode

-- It is 14 at 0, and what the call was to write is filled with zeros. It shuts out a face that takes every number but 0
-- as live mode.
pub record NoModeRefused : Type 0 where
  pub part :
      (mode : ℕ) (s : List ℕ) (part : ℕ) (t : List ℕ) (r : UzPart) (t' : List ℕ) → chosen_mode mode ≡ None
      → UzPartPromise mode s part t r t' → (r ≡ part_face (refusal bad_argument)) × (t' ≡ zeros (length t))
  pub place :
      (mode : ℕ) (s : List ℕ) (start size parent x : ℕ) (t : List ℕ) (r : UzPlace) (t' : List ℕ)
      → chosen_mode mode ≡ None → UzPlacePromise mode s start size parent x t r t'
      → (r ≡ place_face (refusal bad_argument)) × (t' ≡ zeros (length t))
  pub owner :
      (mode : ℕ) (s : List ℕ) (start size parent x : ℕ) (r : UzOwned) → chosen_mode mode ≡ None
      → UzOwnerPromise mode s start size parent x r → r ≡ owned_face (Err bad_argument)
  pub chain :
      (mode : ℕ) (s : List ℕ) (start size parent x : ℕ) (t : List ℕ) (r : UzOwned) (t' : List ℕ)
      → chosen_mode mode ≡ None → UzChainPromise mode s start size parent x t r t'
      → (r ≡ owned_face (Err bad_argument)) × (t' ≡ zeros (length t))

-- The same of `uz_open`, and of its five tables.
abbrev pub OpenNoModeRefused : Type 0
OpenNoModeRefused =
    (mode : ℕ) (s : List ℕ) (t : Tables) (r : UzOpened) (t' : Tables) → chosen_mode mode ≡ None
    → UzOpenPromise mode s t r t' → (r ≡ opened_face (Err bad_argument)) × (t' ≡ zeroed (sizes_of t))

-- 0 and 1 name the two modes, and no other number names one.
abbrev pub ModesNamed : Type 0
ModesNamed =
    (chosen_mode 0 ≡ Some false) × (chosen_mode 1 ≡ Some true) × ((m : ℕ) → chosen_mode (m + 2) ≡ None)
