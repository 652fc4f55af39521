-- Each number of a reply crosses to C under its own name (`PartNamed`, `RangeNamed`, `TextNamed`, `PlaceNamed`,
-- `OwnerNamed`, `ChainNamed`, `OpenNamed`). Assumes nothing.
use Prim.Native.Nat.{◌+◌}
use mathlib.Core.Path.{◌≡◌, refl, ap, sym, ◌∙◌}
use native.Mathlib.Omega.{arith}
use borrow.Author.Tests.{ne_eqb}
use Rattle.places_rules.specs.Promise.{range_told, whose_told}
use Rattle.places_rules.specs.declared.whose.WhoseRow.TheVariants.{Header, Payload}
use Rattle.elements_rules.specs.Promise.{table_of as read_table}
use Rattle.owner_rules.specs.Promise.{links_of}
use Rattle.search_rules.specs.Part.{part_told}
use Rattle.search_rules.specs.Part.{table_of as search_table}
use Rattle.viewer_rules.specs.Modes.{chosen_mode}
use Rattle.viewer_rules.specs.Faces.{part_face, range_face, place_face, owned_face, found_face, opened_face}
use Rattle.viewer_rules.specs.Theorems.{part_named, range_named, place_named, PartNamed, RangeNamed, TextNamed}
use Rattle.viewer_rules.specs.Theorems.{PlaceNamed, OwnerNamed, ChainNamed, NoModeRefused, OpenNoModeRefused, ModesNamed}
use Rattle.viewer_rules.specs.Theorems.{found_named, open_named, OpenNamed}
use Rattle.std.proofs.Common.{Result, Ok, Err}
use Rattle.open_rules.specs.declared.parts.Parts.{Parts}
use Rattle.bodies_rules.specs.declared.body.Range.{Range}
use Rattle.refusals.specs.declared.refusal.Refusal.{Refusal}
use Rattle.places_rules.specs.declared.whose.WhoseRow.{WhoseRow}
use Prim.Native.Nat.{ℕ}
use Rattle.std.proofs.Common.{Option, Some, None}
use Rattle.search_rules.specs.declared.part.Part.{Part}

part_face_law : (q : Result (Option Part × ℕ) Refusal) → part_face (part_told q) ≡ part_named q
part_face_law (Ok (Some p, heads)) = refl
part_face_law (Ok (None, heads)) = refl
part_face_law (Err e) = refl

range_face_law : (q : Result Range Refusal) → range_face (range_told q) ≡ range_named q
range_face_law (Ok r) = refl
range_face_law (Err e) = refl

place_face_law : (q : Result WhoseRow Refusal) → place_face (whose_told q) ≡ place_named q
place_face_law (Ok (Header row rows)) = refl
place_face_law (Ok (Payload row rows)) = refl
place_face_law (Err e) = refl

pub part_named_law : PartNamed
part_named_law mode live s part t q r t' u' i p u =
    u.reply ∙ rw i (ap part_face (sym p.reply) ∙ part_face_law q)

pub range_named_law : RangeNamed
range_named_law s t row q r p u = u.reply ∙ ap range_face (sym p.reply) ∙ range_face_law q

pub text_named : TextNamed
text_named s t row q r p u = u.reply ∙ ap range_face (sym p.reply) ∙ range_face_law q

pub place_named_law : PlaceNamed
place_named_law mode live s start size parent x t q r t' u' i p u =
    u.reply ∙ rw i (ap place_face (sym p.reply) ∙ place_face_law q)

pub owner_named : OwnerNamed
owner_named mode live s start size parent x q r i p u = u.reply ∙ rw i (ap owned_face (sym p.reply))

pub chain_named : ChainNamed
chain_named mode live s start size parent x t q r t' u' i p u =
    (u.reply ∙ rw i (ap owned_face (sym p.reply)), u.links ∙ rw i (sym p.links))

found_face_law : (q : Option Part) → found_face q ≡ found_named q
found_face_law None = refl
found_face_law (Some p) = refl

open_face : (q : Result (Parts × ℕ) Refusal) → opened_face q ≡ open_named q
open_face (Err e) = refl
open_face (Ok (parts, heads)) =
    rw (
      found_face_law parts.info,
      found_face_law parts.tracks,
      found_face_law parts.attachments,
      found_face_law parts.chapters,
      found_face_law parts.tags,
    ) refl

pub open_named_law : OpenNamed
open_named_law mode live s t q r t' u' i p u =
    (u.reply ∙ rw i (ap opened_face (sym p.reply) ∙ open_face q), u.tables ∙ rw i (sym p.tables))

-- ---- a number that names no mode

pub no_mode_refused : NoModeRefused
unfolding search_table read_table links_of
no_mode_refused = record {
  part = λ mode s part t r t' i p. (p.reply ∙ rw i refl, p.table ∙ rw i refl);
  place = λ mode s start size parent x t r t' i p. (p.reply ∙ rw i refl, p.table ∙ rw i refl);
  owner = λ mode s start size parent x r i p. p.reply ∙ rw i refl;
  chain = λ mode s start size parent x t r t' i p. (p.reply ∙ rw i refl, p.links ∙ rw i refl);
}

pub open_no_mode_refused : OpenNoModeRefused
open_no_mode_refused mode s t r t' i p = (p.reply ∙ rw i refl, p.tables ∙ rw i refl)

pub modes_named : ModesNamed
unfolding chosen_mode
modes_named = (
  refl,
  refl,
  λ m. rw (ne_eqb (m + 2) 0 (λ q. omega arith), ne_eqb (m + 2) 1 (λ q. omega arith)) refl,
)
