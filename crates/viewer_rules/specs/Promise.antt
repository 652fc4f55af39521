-- What the functions of the C face promise: the faces of the replies that the calls behind them promise in the mode
-- that is named, and the very same tables.
use Rattle.std.specs.Prelude.{ℕ, ◌≡◌, List, length}
use Rattle.elements_rules.specs.Promise.{table_of as read_table}
use Rattle.places_rules.specs.Payload.{payload_range}
use Rattle.places_rules.specs.Promise.{values_of}
use Rattle.places_rules.specs.Whose.{whose_of}
use Rattle.owner_rules.specs.Promise.{owner_reply, links_of}
use Rattle.search_rules.specs.Part.{reply_of, table_of}
use Rattle.open_rules.specs.Tables.{Tables, sizes_of}
use Rattle.open_rules.specs.Promise.{reply_of as open_reply}
use Rattle.shown_rules.specs.Shown.{text_range}
use Rattle.viewer_rules.specs.Modes.{search_in, asked_in, owner_in, chain_in, open_in, tables_in}
use Rattle.viewer_rules.specs.Faces.{part_face, range_face, place_face, owned_face, opened_face}
use Rattle.viewer_rules.specs.declared.opened.UzOpened.{UzOpened}
use Rattle.viewer_rules.specs.declared.owned.UzOwned.{UzOwned}
use Rattle.viewer_rules.specs.declared.part.UzPart.{UzPart}
use Rattle.viewer_rules.specs.declared.range.UzRange.{UzRange}
use Rattle.viewer_rules.specs.declared.whose.UzPlace.{UzPlace}

pub record UzPartPromise (mode : ℕ) (s : List ℕ) (part : ℕ) (t : List ℕ) (r : UzPart) (t' : List ℕ) : Type 0 where
  pub reply : r ≡ part_face (reply_of (search_in mode s part (length t)))
  pub table : t' ≡ table_of (length t) (search_in mode s part (length t))

pub record UzRangePromise (s t : List ℕ) (row : ℕ) (r : UzRange) : Type 0 where
  pub reply : r ≡ range_face (values_of (payload_range s t row))

pub record UzTextPromise (s t : List ℕ) (row : ℕ) (r : UzRange) : Type 0 where
  pub reply : r ≡ range_face (values_of (text_range s t row))

pub record UzPlacePromise
    (mode : ℕ) (s : List ℕ) (start size parent x : ℕ) (t : List ℕ) (r : UzPlace) (t' : List ℕ) : Type 0 where
  pub reply : r ≡ place_face (whose_of start x (asked_in mode s start size parent x (length t)))
  pub table : t' ≡ read_table start (length t) (asked_in mode s start size parent x (length t))

pub record UzOwnerPromise (mode : ℕ) (s : List ℕ) (start size parent x : ℕ) (r : UzOwned) : Type 0 where
  pub reply : r ≡ owned_face (owner_reply (owner_in mode s start size parent x))

pub record UzChainPromise
    (mode : ℕ) (s : List ℕ) (start size parent x : ℕ) (t : List ℕ) (r : UzOwned) (t' : List ℕ) : Type 0 where
  pub reply : r ≡ owned_face (owner_reply (chain_in mode s start size parent x (length t)))
  pub links : t' ≡ links_of (length t) (chain_in mode s start size parent x (length t))

pub record UzOpenPromise (mode : ℕ) (s : List ℕ) (t : Tables) (r : UzOpened) (t' : Tables) : Type 0 where
  pub reply : r ≡ opened_face (open_reply (open_in mode s (sizes_of t)))
  pub tables : t' ≡ tables_in mode s (sizes_of t)
