-- The promise of a call behind the C face is the promise of its face. Assumes nothing.
use Prim.Native.Nat.{ℕ}
use mathlib.Core.Path.{◌≡◌, refl, ap, ◌∙◌}
use mathlib.Core.List.{List}
use mathlib.Core.Bool.{Bool}
use lib.ListN.{length}
use Rattle.refusals.specs.Refusals.{bad_argument}
use Rattle.elements_rules.specs.Promise.{zeros}
use Rattle.elements_rules.specs.Promise.{table_of as read_table}
use Rattle.places_rules.specs.Promise.{RangePromise, WhosePromise, range_told}
use Rattle.places_rules.specs.Promise.{whose_told}
use Rattle.owner_rules.specs.Promise.{links_of, OwnerPromise, ChainPromise}
use Rattle.search_rules.specs.Part.{PartPromise, part_told}
use Rattle.search_rules.specs.Part.{table_of as search_table}
use Rattle.open_rules.specs.Tables.{Tables, sizes_of, zeroed}
use Rattle.open_rules.specs.Promise.{OpenPromise}
use Rattle.shown_rules.specs.Promise.{TextPromise}
use Rattle.viewer_rules.specs.Modes.{chosen_mode}
use Rattle.viewer_rules.specs.Faces.{part_face, range_face, place_face, owned_face, opened_face}
use Rattle.viewer_rules.specs.Promise.{UzPartPromise, UzRangePromise, UzTextPromise, UzPlacePromise}
use Rattle.viewer_rules.specs.Promise.{UzOwnerPromise, UzChainPromise, UzOpenPromise}
use Rattle.std.proofs.Common.{Result, Err, Some, None}
use Rattle.owner_rules.specs.declared.owner.Owner.{Owner}
use Rattle.open_rules.specs.declared.parts.Parts.{Parts}
use Rattle.bodies_rules.specs.declared.body.Range.{Range}
use Rattle.refusals.specs.declared.refusal.Refusal.{Refusal}
use Rattle.places_rules.specs.declared.whose.WhoseRow.{WhoseRow}
use Rattle.std.proofs.Common.{Option}
use Rattle.search_rules.specs.declared.part.Part.{Part}

pub part_crosses :
    (mode : ℕ) (live : Bool) (s : List ℕ) (part : ℕ) (t : List ℕ) (r : Result (Option Part × ℕ) Refusal) (t' : List ℕ)
    → chosen_mode mode ≡ Some live → PartPromise live s part t r t'
    → UzPartPromise mode s part t (part_face (part_told r)) t'
part_crosses mode live s part t r t' i p = record { reply = rw i (ap part_face p.reply); table = rw i p.table }

pub range_crosses :
    (s t : List ℕ) (row : ℕ) (r : Result Range Refusal)
    → RangePromise s t row r → UzRangePromise s t row (range_face (range_told r))
range_crosses s t row r p = record { reply = ap range_face p.reply }

pub text_crosses :
    (s t : List ℕ) (row : ℕ) (r : Result Range Refusal)
    → TextPromise s t row r → UzTextPromise s t row (range_face (range_told r))
text_crosses s t row r p = record { reply = ap range_face p.reply }

pub place_crosses :
    (mode : ℕ) (live : Bool) (s : List ℕ) (start size parent x : ℕ) (t : List ℕ) (r : Result WhoseRow Refusal) (t' : List ℕ)
    → chosen_mode mode ≡ Some live → WhosePromise live s start size parent x t r t'
    → UzPlacePromise mode s start size parent x t
    (place_face (whose_told r)) t'
place_crosses mode live s start size parent x t r t' i p =
    record { reply = rw i (ap place_face p.reply); table = rw i p.table }

pub owner_crosses :
    (mode : ℕ) (live : Bool) (s : List ℕ) (start size parent x : ℕ) (r : Result Owner Refusal)
    → chosen_mode mode ≡ Some live → OwnerPromise live s start size parent x r
    → UzOwnerPromise mode s start size parent x (owned_face r)
owner_crosses mode live s start size parent x r i p = record { reply = rw i (ap owned_face p.reply) }

pub chain_crosses :
    (mode : ℕ) (live : Bool) (s : List ℕ) (start size parent x : ℕ) (t : List ℕ) (r : Result Owner Refusal) (t' : List ℕ)
    → chosen_mode mode ≡ Some live → ChainPromise live s start size parent x t r t'
    → UzChainPromise mode s start size parent x t (owned_face r) t'
chain_crosses mode live s start size parent x t r t' i p =
    record { reply = rw i (ap owned_face p.reply); links = rw i p.links }

pub open_crosses :
    (mode : ℕ) (live : Bool) (s : List ℕ) (t : Tables) (r : Result (Parts × ℕ) Refusal) (t' : Tables)
    → chosen_mode mode ≡ Some live → OpenPromise live s t r t' → UzOpenPromise mode s t (opened_face r) t'
open_crosses mode live s t r t' i p =
    record { reply = rw i (ap opened_face p.reply); tables = rw i p.tables }

-- ---- where no mode is named

pub part_unnamed : (mode : ℕ) (s : List ℕ) (part : ℕ) (t t' : List ℕ) → chosen_mode mode ≡ None
    → t' ≡ zeros (length t) → UzPartPromise mode s part t (part_face (part_told (Err bad_argument))) t'
unfolding search_table
part_unnamed mode s part t t' i z = record { reply = rw i refl; table = z ∙ rw i refl }

pub place_unnamed : (mode : ℕ) (s : List ℕ) (start size parent x : ℕ) (t t' : List ℕ) → chosen_mode mode ≡ None
    → t' ≡ zeros (length t)
    → UzPlacePromise mode s start size parent x t (place_face (whose_told (Err bad_argument))) t'
unfolding read_table
place_unnamed mode s start size parent x t t' i z = record { reply = rw i refl; table = z ∙ rw i refl }

pub owner_unnamed : (mode : ℕ) (s : List ℕ) (start size parent x : ℕ) → chosen_mode mode ≡ None
    → UzOwnerPromise mode s start size parent x (owned_face (Err bad_argument))
owner_unnamed mode s start size parent x i = record { reply = rw i refl }

pub chain_unnamed : (mode : ℕ) (s : List ℕ) (start size parent x : ℕ) (t t' : List ℕ) → chosen_mode mode ≡ None
    → t' ≡ zeros (length t) → UzChainPromise mode s start size parent x t (owned_face (Err bad_argument)) t'
unfolding links_of
chain_unnamed mode s start size parent x t t' i z = record { reply = rw i refl; links = z ∙ rw i refl }

pub open_unnamed : (mode : ℕ) (s : List ℕ) (t t' : Tables) → chosen_mode mode ≡ None
    → t' ≡ zeroed (sizes_of t) → UzOpenPromise mode s t (opened_face (Err bad_argument)) t'
open_unnamed mode s t t' i z = record { reply = rw i refl; tables = z ∙ rw i refl }
