-- Any two replies that a promise permits are equal, and its refusals are listed and honest. Assumes nothing.
use mathlib.Core.Path.{◌≡◌, sym, ap, ◌∙◌}
use mathlib.Core.List.{List}
use Prim.Native.Nat.{ℕ}
use Rattle.refusals.specs.Reply.{refusal}
use Rattle.refusals.specs.declared.refusal.Refusal.{Refusal}
use Rattle.refusals.proofs.Listed.{listed}
use Rattle.elements_rules.specs.Rows.{row_at}
use Rattle.places_rules.specs.Payload.{PayloadRange, range, refused, payload_range}
use Rattle.places_rules.specs.Promise.{values_of}
use Rattle.places_rules.proofs.Honest.{range_refused, payload_refused}
use Rattle.places_rules.proofs.Unique.{range_of, range_back}
use Rattle.shown_rules.specs.Shown.{is_text, shown_in, text_range}
use Rattle.shown_rules.specs.Theorems.{OneText, OneShown, TextRefusesListed, TextHonest}

pub text_unique : OneText
text_unique s t row r r' p q = sym (range_back r) ∙ ap range_of (p.reply ∙ sym q.reply) ∙ range_back r'

pub shown_unique : OneShown
shown_unique s t row part part' p q = p.reply ∙ sym q.reply

pub text_refuses_listed : TextRefusesListed
text_refuses_listed s t row e p = listed e

-- What is shown of a range is refused where the range is.
shown_refused : (s : List ℕ) (r : PayloadRange) (e : Refusal) → refusal e ≡ values_of (shown_in s r)
    → refusal e ≡ values_of r
shown_refused s (range at n) e q = cc
shown_refused s (refused f) e q = q

pub text_honest : TextHonest
unfolding text_range
text_honest s t row e p =
    range_refused (is_text (row_at t row).kind) (shown_in s (payload_range s t row)) e p.reply
    (λ q. payload_refused s t row e (shown_refused s (payload_range s t row) e q))
