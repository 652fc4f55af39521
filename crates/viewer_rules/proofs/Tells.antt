-- `refused` is 0 for an accepted reply alone, and else one of document 01's numbers (`PartTells`, `RangeTells`,
-- `TextTells`, `PlaceTells`, `OwnerTells`, `ChainTells`, `OpenTells`); an id crosses with 8 alone (`IdAlone`,
-- `OpenIdAlone`). Assumes nothing.
use Prim.Native.Nat.{ℕ}
use mathlib.Core.Path.{◌≡◌, refl, ap, sym, ◌∙◌, subst}
use native.Mathlib.Omega.{arith}
use lib.ListN.{length}
use Rattle.refusals.specs.Causes.{cause_number}
use Rattle.refusals.specs.Reply.{Reply, accepted, refusal}
use Rattle.refusals.proofs.Listed.{listed}
use Rattle.bodies_rules.specs.declared.body.Range.{Range}
use Rattle.places_rules.specs.Payload.{payload_range}
use Rattle.places_rules.specs.Promise.{values_of}
use Rattle.places_rules.specs.Whose.{Whose, by_header, by_payload, whose_of}
use Rattle.owner_rules.specs.Owner.{Side, header, payload, Owned}
use Rattle.owner_rules.specs.Promise.{owner_is, owner_reply}
use Rattle.search_rules.specs.Part.{PartTold, found_part, absent_part, reply_of}
use Rattle.open_rules.specs.Tables.{sizes_of}
use Rattle.open_rules.specs.Promise.{reply_of as open_reply}
use Rattle.shown_rules.specs.Shown.{text_range}
use Rattle.viewer_rules.specs.Modes.{search_in, asked_in, owner_in, chain_in, open_in}
use Rattle.viewer_rules.specs.Faces.{part_face, range_face, place_face, owned_face, opened_face}
use Rattle.viewer_rules.specs.Theorems.{Tells, PartTells, RangeTells, TextTells, PlaceTells, OwnerTells}
use Rattle.viewer_rules.specs.Theorems.{ChainTells, IdAlone, open_told, OpenTells, OpenIdAlone}
use Rattle.viewer_rules.specs.declared.opened.UzOpened.{UzOpened}
use Rattle.viewer_rules.specs.declared.owned.UzOwned.{UzOwned}
use Rattle.viewer_rules.specs.declared.part.UzPart.{UzPart}
use Rattle.viewer_rules.specs.declared.range.UzRange.{UzRange}
use Rattle.viewer_rules.specs.declared.whose.UzPlace.{UzPlace}
use Rattle.std.proofs.Common.{Result, Ok, Err}
use Rattle.open_rules.specs.declared.parts.Parts.{Parts}
use Rattle.refusals.specs.declared.refusal.Refusal.{Refusal}

-- What crosses as `refused`, in each of the faces.
abbrev crossed : {A : Type 0} → Reply A → ℕ
crossed (accepted values) = 0
crossed (refusal e) = cause_number e.cause

tells : {A : Type 0} (reply : Reply A) → Tells reply (crossed reply)
tells (accepted values) = record { listed = omega arith; but = λ q. omega arith; accepts = λ e. tt; zero = λ a. refl }
tells (refusal e) =
    let l = listed e in
    record { listed = l.most; but = l.but; accepts = λ z. omega (arith, l.least); zero = λ a. absurd a }

part_crossed : (reply : Reply PartTold) → crossed reply ≡ (part_face reply).refused
part_crossed (accepted (found_part at size rows heads)) = refl
part_crossed (accepted (absent_part heads)) = refl
part_crossed (refusal e) = refl

range_crossed : (reply : Reply Range) → crossed reply ≡ (range_face reply).refused
range_crossed (accepted r) = refl
range_crossed (refusal e) = refl

place_crossed : (reply : Reply Whose) → crossed reply ≡ (place_face reply).refused
place_crossed (accepted (by_header row rows)) = refl
place_crossed (accepted (by_payload row rows)) = refl
place_crossed (refusal e) = refl

pub part_tells : PartTells
part_tells mode s part t r t' p =
    let reply = reply_of (search_in mode s part (length t)) in
    subst (Tells reply) (part_crossed reply ∙ ap (λ (x : UzPart). x.refused) (sym p.reply)) (tells reply)

-- Of a range, whichever call it is of.
range_said : (reply : Reply Range) (r : UzRange) → r ≡ range_face reply → Tells reply r.refused
range_said reply r e =
    subst (Tells reply) (range_crossed reply ∙ ap (λ (x : UzRange). x.refused) (sym e)) (tells reply)

pub range_tells : RangeTells
range_tells s t row r p = range_said (values_of (payload_range s t row)) r p.reply

pub text_tells : TextTells
text_tells s t row r p = range_said (values_of (text_range s t row)) r p.reply

pub place_tells : PlaceTells
place_tells mode s start size parent x t r t' p =
    let reply = whose_of start x (asked_in mode s start size parent x (length t)) in
    subst (Tells reply) (place_crossed reply ∙ ap (λ (y : UzPlace). y.refused) (sym p.reply)) (tells reply)

-- Of an owner, with the chain or without.
owned_crossed : (reply : Reply Owned) → crossed reply ≡ (owned_face (owner_reply reply)).refused
owned_crossed (refusal e) = refl
owned_crossed (accepted o) = by o.side
  where
    by : (p : Side) → 0 ≡ (owned_face (owner_is p o.address (length o.masters))).refused
    by header = refl
    by payload = refl

owned_said : (reply : Reply Owned) (r : UzOwned) → r ≡ owned_face (owner_reply reply) → Tells reply r.refused
owned_said reply r e =
    subst (Tells reply) (owned_crossed reply ∙ ap (λ (y : UzOwned). y.refused) (sym e)) (tells reply)

pub owner_tells : OwnerTells
owner_tells mode s start size parent x r p = owned_said (owner_in mode s start size parent x) r p.reply

pub chain_tells : ChainTells
chain_tells mode s start size parent x t r t' p =
    owned_said (chain_in mode s start size parent x (length t)) r p.reply

face_id : (reply : Reply PartTold) → ((part_face reply).id ≡ 0 → ⊥) → (part_face reply).refused ≡ 8
face_id (accepted (found_part at size rows heads)) some = absurd (some refl)
face_id (accepted (absent_part heads)) some = absurd (some refl)
face_id (refusal e) some = (listed e).alone some

pub id_alone : IdAlone
id_alone mode s part t r t' p some =
    let same = p.reply in
    ap (λ (x : UzPart). x.refused) same
    ∙ face_id (reply_of (search_in mode s part (length t))) (λ z. some (ap (λ (x : UzPart). x.id) same ∙ z))

-- ---- of all parts at once

open_crossed : (reply : Result (Parts × ℕ) Refusal) → crossed (open_told reply) ≡ (opened_face reply).refused
open_crossed (Ok (parts, heads)) = refl
open_crossed (Err e) = refl

pub open_tells : OpenTells
open_tells mode s t r t' p =
    let reply = open_reply (open_in mode s (sizes_of t)) in
    subst (Tells (open_told reply)) (open_crossed reply ∙ ap (λ (x : UzOpened). x.refused) (sym p.reply))
    (tells (open_told reply))

open_id : (reply : Result (Parts × ℕ) Refusal) → ((opened_face reply).id ≡ 0 → ⊥) → (opened_face reply).refused ≡ 8
open_id (Ok (parts, heads)) some = absurd (some refl)
open_id (Err e) some = (listed e).alone some

pub open_id_alone : OpenIdAlone
open_id_alone mode s t r t' p some =
    let same = p.reply in
    ap (λ (x : UzOpened). x.refused) same
    ∙ open_id (open_reply (open_in mode s (sizes_of t))) (λ z. some (ap (λ (x : UzOpened). x.id) same ∙ z))
