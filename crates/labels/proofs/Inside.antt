-- The label by what the string's range holds: a range in the recording, one that is not in it, a text row's payload
-- (`OwnWithoutString`, `LabelInside`, `LabelIsShown`). Assumes nothing.
use Prim.Native.Nat.{ℕ}
use mathlib.Core.Path.{◌≡◌, refl, sym, ap, ◌∙◌}
use mathlib.Core.List.{List}
use lib.ListN.{take, drop}
use Rattle.places_rules.specs.Payload.{payload_range, bytes_of}
use Rattle.places_rules.specs.Promise.{PayloadPromise}
use Rattle.places_rules.proofs.Ranges.{told_range, range_inside}
use Rattle.shown_rules.proofs.Zeros.{before_zero, one_before_zero}
use Rattle.shown_rules.proofs.Texts.{shown_before_zero}
use Rattle.labels.specs.Labels.{or_own, label_of}
use Rattle.labels.specs.Theorems.{OwnWithoutString, LabelInside, LabelIsShown}
use Rattle.labels.proofs.Stages.{own_empty, own_other, label_in, label_outside}
use Rattle.std.proofs.Common.{Some}

pub own_without_string : OwnWithoutString
unfolding label_of
own_without_string = record {
  unset = λ s own part p. p.reply;
  outside = λ s string own part l p.
      p.reply ∙ sym (label_outside s own {string = Some string} refl l).reply;
}

pub label_inside : LabelInside
label_inside s string l text b =
    let same = one_before_zero _ text _ b (before_zero (take string.length (drop string.at s))) in
    let by : (own : List ℕ) → label_of s (Some string) own ≡ or_own text own
    = λ own. label_in s own refl l ∙ ap (λ (x : List ℕ). or_own x own) (sym same) in
    record {
      some = λ own part n p. p.reply ∙ by own ∙ own_other text own n;
      none = λ own part n p. p.reply ∙ by own ∙ own_empty text own n;
    }

pub label_is_shown : LabelIsShown
label_is_shown s t row string d r text q =
    let place = told_range (payload_range s t row) string r.reply in
    let whole : PayloadPromise s t row (take string.length (drop string.at s))
    = record { reply = sym (ap (bytes_of s) place) } in
    label_inside s string (range_inside s t row string r).ends text (shown_before_zero s t row _ text d whole q)
