-- The shown text of every text row of an accepted read is UTF-8 (`AcceptedShown`). Assumes nothing.
use Prim.Native.Nat.{ℕ, ◌+◌}
use mathlib.Core.Path.{◌≡◌, refl, sym, ap, subst}
use mathlib.Core.List.{List}
use mathlib.Core.Bool.{Bool, true, false, cond, not, ◌||◌}
use native.Mathlib.Omega.{arith}
use lib.ListN.{length}
use lib.Dec.{leb, eqb}
use borrow.Author.Tests.{eqb-true}
use Rattle.refusals.specs.declared.refusal.Cause.TheVariants as C
use Rattle.kinds.specs.Kinds.{kind_numbered}
use Rattle.kinds.specs.declared.kind.Kind.TheVariants as K
use Rattle.utf8.specs.Utf8.{utf8}
use Rattle.bodies_rules.specs.Bodies.{Told, refused, value, payload, body_of}
use Rattle.bodies_rules.specs.declared.body.Value.TheVariants.{Text}
use Rattle.elements_rules.specs.Rows.{row_at, rows_of, payload_of}
use Rattle.elements_rules.specs.Stands.{IsValue}
use Rattle.elements_rules.specs.Theorems.{Sound}
use Rattle.elements_rules.specs.declared.row.Row.{Row}
use Rattle.elements_rules.proofs.Numbered.{length_rows_of, row_of_law, each_at}
use Rattle.elements_rules.proofs.Sound.{rows_sound}
use Rattle.places_rules.specs.Payload.{bytes_of}
use Rattle.places_rules.specs.Promise.{PayloadPromise}
use Rattle.places_rules.proofs.Accepted.{rows_have_ranges}
use Rattle.shown_rules.specs.Shown.{is_text}
use Rattle.shown_rules.specs.Theorems.{AcceptedShown}
use Rattle.shown_rules.proofs.Texts.{shown_before_zero}
use Rattle.shown_rules.proofs.Characters.{shown_is_utf8}

-- A text that is a value is UTF-8.
text_valid : (s : List ℕ) (at n : ℕ) → IsValue (body_of s at n K.Utf8) → utf8 (payload s at n) ≡ true
unfolding body_of
text_valid s at n v = by (leb (at + n) (length s)) (utf8 (payload s at n)) v
  where
    text : Told
    text = value (Text (record { at = at; length = n }))

    by : (there u : Bool) → IsValue (cond there (cond u text (refused C.NotUtf8)) (refused C.PastEnd)) → u ≡ true
    by true true v = refl
    by true false v = absurd v
    by false u v = absurd v

-- A row of one of the two kinds of text.
text_row : (s : List ℕ) (r : Row) → Sound s r → is_text r.kind ≡ true → utf8 (payload_of s r) ≡ true
unfolding is_text body_of
text_row s r sound d = by (eqb r.kind 4) refl (eqb r.kind 5) refl d
  where
    Valued : ℕ → Type 0
    Valued kind =
        not (eqb kind 1) ≡ true → IsValue (body_of s (r.address + r.header) r.payload (kind_numbered kind))

    by : (a : Bool) → eqb r.kind 4 ≡ a → (b : Bool) → eqb r.kind 5 ≡ b → (a || b) ≡ true
        → utf8 (payload_of s r) ≡ true
    by true e b f w =
        text_valid s (r.address + r.header) r.payload (subst Valued (eqb-true r.kind 4 e) sound.value refl)
    by false e true f w =
        text_valid s (r.address + r.header) r.payload (subst Valued (eqb-true r.kind 5 f) sound.value refl)
    by false e false f w = let z : ◌≡◌ {A = ℕ} 0 1 = cc in absurd (omega arith)

pub accepted_shown : AcceptedShown
accepted_shown live s start size parent t n t' p k l d part q =
    let place = rows_have_ranges live s start size parent t n t' p k l in
    let all = rows_sound live s start size parent t n t' p in
    let sound = subst (Sound s) (row_of_law t' n k l)
    (each_at (Sound s) (rows_of t' n) k (rw (length_rows_of t' n) l) all) in
    let whole : PayloadPromise s t' k (payload_of s (row_at t' k)) = record { reply = sym (ap (bytes_of s) place) } in
    let valid = text_row s (row_at t' k) sound d in
    record {
      zero = shown_before_zero s t' k (payload_of s (row_at t' k)) part d whole q;
      encoded = shown_is_utf8 s t' k (payload_of s (row_at t' k)) part whole q valid;
    }
