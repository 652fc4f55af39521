-- Any two replies that a promise permits are equal (`OneRange`, `OnePayload`, `OneOwner`), and a refusal is one of
-- the list (`PlacesRefuseListed`). Assumes nothing.
use Prim.Native.Nat.{ℕ}
use mathlib.Core.Path.{◌≡◌, refl, sym, ap, ◌∙◌}
use Rattle.refusals.specs.Reply.{Reply, accepted, refusal}
use Rattle.refusals.proofs.Listed.{listed}
use Rattle.bodies_rules.specs.declared.body.Range.{Range}
use Rattle.elements_rules.specs.Reading.{Outcome}
use Rattle.elements_rules.specs.Promise.{table_of}
use Rattle.places_rules.specs.Whose.{Whose, by_header, by_payload, asked_of, whose_of}
use Rattle.places_rules.specs.Promise.{range_told, whose_told}
use Rattle.places_rules.specs.Theorems.{OneRange, OnePayload, OneOwner, PlacesRefuseListed}
use Rattle.places_rules.specs.declared.whose.WhoseRow.TheVariants.{Header, Payload}
use Rattle.std.proofs.Common.{Result, Ok, Err}
use Rattle.refusals.specs.declared.refusal.Refusal.{Refusal}
use Rattle.places_rules.specs.declared.whose.WhoseRow.{WhoseRow}

-- ---- what was told tells the reply

abbrev pub range_of : Reply Range → Result Range Refusal
range_of (accepted r) = Ok r
range_of (refusal e) = Err e

pub range_back : (r : Result Range Refusal) → range_of (range_told r) ≡ r
range_back (Ok r) = refl
range_back (Err e) = refl

abbrev pub replied : Reply Whose → Result WhoseRow Refusal
replied (accepted (by_header row rows)) = Ok (Header row rows)
replied (accepted (by_payload row rows)) = Ok (Payload row rows)
replied (refusal e) = Err e

pub replied_back : (r : Result WhoseRow Refusal) → replied (whose_told r) ≡ r
replied_back (Ok (Header row rows)) = refl
replied_back (Ok (Payload row rows)) = refl
replied_back (Err e) = refl

-- ---- the theorems

pub range_unique : OneRange
range_unique s t row r r' p q = sym (range_back r) ∙ ap range_of (p.reply ∙ sym q.reply) ∙ range_back r'

pub payload_unique : OnePayload
payload_unique s t row part part' p q = p.reply ∙ sym q.reply

pub owner_unique : OneOwner
owner_unique live s start size parent x t u r r' t' u' l p q =
    let asked : ℕ → Outcome = λ n. asked_of live s start size parent x n in
    let a = p.reply ∙ ap (λ (n : ℕ). whose_of start x (asked n)) l ∙ sym q.reply in
    let b = p.table ∙ ap (λ (n : ℕ). table_of start n (asked n)) l ∙ sym q.table in
    (sym (replied_back r) ∙ ap replied a ∙ replied_back r', b)

pub places_refuse_listed : PlacesRefuseListed
places_refuse_listed =
    record { range = λ s t row e p. listed e; owner = λ live s start size parent x t e t' p. listed e }
