-- A display's string comes from a text row, and the label goes by the row's shown text (`StageIsShown`,
-- `FirstIsShown`). Assumes nothing.
use Prim.Native.Nat.{ℕ, ◌+◌, ◌-◌, ◌*◌, ◌<◌}
use mathlib.Core.Path.{◌≡◌, refl, sym, ap, ap₂, ◌∙◌, subst}
use mathlib.Core.List.{List}
use mathlib.Core.Bool.{true}
use native.Mathlib.Omega.{arith}
use lib.ListN.{length}
use Rattle.bodies_rules.specs.declared.body.Range.{Range}
use Rattle.kinds.specs.declared.kind.Kind.TheVariants.{Utf8}
use Rattle.elements_rules.specs.Rows.{width, row_at, rows_of, nth}
use Rattle.elements_rules.specs.Promise.{zeros, ReadPromise}
use Rattle.elements_rules.specs.declared.row.Row.{Row}
use Rattle.elements_rules.proofs.Numbered.{row_of_law}
use Rattle.elements_rules.proofs.Readback.{rows_back}
use Rattle.places_rules.specs.Payload.{range, bytes_of}
use Rattle.places_rules.specs.Promise.{values_of, RangePromise}
use Rattle.places_rules.proofs.Accepted.{rows_have_ranges}
use Rattle.fields_rules.specs.Children.{subtree, children, last_of}
use Rattle.fields_rules.specs.Values.{content, content_in}
use Rattle.fields_rules.specs.Fields.{content_of}
use Rattle.fields_rules.specs.Told.{content_told}
use Rattle.fields_rules.proofs.Picked.{last_is, fits_kind}
use Rattle.locate_rules.specs.Asked.{Asked, found, refusing, table_after}
use Rattle.locate_rules.specs.Promise.{answer_of, of_below}
use Rattle.locate_rules.proofs.Addressed.{Known-in, child_row, asked_in}
use Rattle.locate_rules.proofs.Settled.{record_is_read}
use Rattle.chapters.specs.Records.{display_of}
use Rattle.chapters.specs.Told.{display_told}
use Rattle.chapters.specs.Promise.{display_asked, DisplayPromise}
use Rattle.chapters.specs.Theorems.{string_told}
use Rattle.chapters.specs.declared.display.ChapterDisplay.{ChapterDisplay}
use Rattle.chapters.proofs.Displays.{first_of_displays}
use Rattle.shown_rules.specs.Shown.{is_text, text_range}
use Rattle.shown_rules.specs.Promise.{ShownPromise}
use Rattle.shown_rules.proofs.Accepted.{accepted_shown}
use Rattle.labels.specs.Theorems.{StageIsShown, ShownBy, FirstIsShown}
use Rattle.labels.proofs.Inside.{label_is_shown}
use Rattle.std.proofs.Common.{Result, Option, Ok, Err, Some, None}
use Rattle.refusals.specs.declared.refusal.Refusal.{Refusal}

-- A part that is told comes from a child.
from_child : (c : Option (ℕ × Row)) (g : Range) → content g.at g.length ≡ content_in c
    → (n : ℕ) × (r : Row) × (c ≡ Some (n, r)) × (r.address + r.header ≡ g.at) × (r.payload ≡ g.length)
from_child None g q = let z : ◌≡◌ {A = ℕ} 0 1 = cc in absurd (omega arith)
from_child (Some (n, r)) g q = (n, r, refl, cc, cc)

-- A row whose kind is UTF-8 is a text row.
utf8_is_text : (kind : ℕ) → kind ≡ 5 → is_text kind ≡ true
unfolding is_text
utf8_is_text kind e = rw e

-- A row of a read is a row of the table that the read leaves.
held_row : (t' : List ℕ) (rs : List Row) (n : ℕ) (r : Row) → rows_of t' (length rs) ≡ rs → n < length rs → nth rs n ≡ r
    → row_at t' n ≡ r
held_row t' rs n r w l q = sym (row_of_law t' (length rs) n l) ∙ ap (λ (x : List Row). nth x n) w ∙ q

-- The question was not refused, and the string is the display's first field.
string_from : (s : List ℕ) (a : Asked) (numbers : ℕ) (d : ChapterDisplay) (rows : ℕ) (g : Range)
    → display_told (Ok (d, rows)) ≡ answer_of (of_below (display_of s)) a → d.string ≡ Some g
    → (rs : List Row) × (master : ℕ) × (a ≡ found rs master) × (rows ≡ length rs)
    × (content g.at g.length ≡ content_in (last_of (children master 0x85 Utf8 (subtree rs master))))
unfolding display_of content_of
string_from s (refusing e) numbers d rows g q w = let z : ◌≡◌ {A = ℕ} 0 1 = cc in absurd (omega arith)
string_from s (found rs master) numbers d rows g q w =
    let e : content_told d.string ≡ content_in (last_of (children master 0x85 Utf8 (subtree rs master))) = cc in
    (rs, master, refl, cc, sym (ap content_told w) ∙ e)

pub stage_is_shown : StageIsShown
stage_is_shown live s start size k i j t d rows t' g p w =
    let (rs, master, a, m, q) =
    string_from s (display_asked live s start size k i j (length t)) (length t) d rows g p.reply w in
    let (n, r, c, at, long) = from_child (last_of (children master 0x85 Utf8 (subtree rs master))) g q in
    let known = subst Known-in a (asked_in live s start size 0x45B9 (length t) _) in
    let (there, row) = child_row s rs master known 0x85 Utf8 n r (sym c) in
    let kind = fits_kind master 0x85 Utf8 r (last_is master 0x85 Utf8 (subtree rs master) n r (sym c)).fit in
    let u = p.table ∙ ap (table_after (length t)) a in
    let read = subst (ReadPromise live s start size 0x45B9 t (Ok (length rs))) (sym u)
    (record_is_read live s start size 0x45B9 t _ rs master a) in
    let held = held_row t' rs n r
    (ap (λ (x : List ℕ). rows_of x (length rs)) u ∙ rows_back rs (zeros (length t - length rs * width))) there row in
    let is_text_law = utf8_is_text (row_at t' n).kind (ap (λ (x : Row). x.kind) held ∙ kind) in
    let first = ap (λ (x : Row). x.address + x.header) held ∙ at in
    let many = ap (λ (x : Row). x.payload) held ∙ long in
    let at_row = rows_have_ranges live s start size 0x45B9 t (length rs) t' read n there ∙ ap₂ range first many in
    let place : RangePromise s t' n (Ok g) = record { reply = sym (ap values_of at_row) } in
    let shown : ShownPromise s t' n (bytes_of s (text_range s t' n)) = record { reply = refl } in
    let shows = accepted_shown live s start size 0x45B9 t (length rs) t' read n there is_text_law _ shown in
    record {
      row = n;
      there = subst (λ (x : ℕ). n < x) (sym m) there;
      kind = is_text_law;
      place = place;
      text = bytes_of s (text_range s t' n);
      promised = shown;
      shows = rw (first, many) at shows;
      label = label_is_shown s t' n g is_text_law place _ shown;
    }

pub first_is_shown : FirstIsShown
first_is_shown live s start size k i t replies tables p rs chapter a j g q =
    let first = first_of_displays live s start size k i t replies tables p rs chapter a in
    by (replies j) refl ((first.at j g).0 q).0
  where
    by : (r : Result (ChapterDisplay × ℕ) Refusal) → replies j ≡ r → string_told r ≡ Some g → ShownBy s (replies j) (tables j) g
    by (Ok (d, rows)) e w =
        let shown : DisplayPromise live s start size k i j t (Ok (d, rows)) (tables j) = rw e at (p j) in
        record {
          display = d;
          rows = rows;
          told = e;
          row = stage_is_shown live s start size k i j t d rows (tables j) g shown w;
        }
    by (Err e) x w = let z : ◌≡◌ {A = ℕ} 0 1 = cc in absurd (omega arith)
