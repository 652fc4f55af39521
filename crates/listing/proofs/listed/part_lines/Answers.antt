-- `part_lines` meets its contract: the part's id, and then its text by the reply of the search. Assumes nothing.
use mathlib.Core.Path.{◌≡◌, ap, ◌∙◌}
use Prim.Native.Nat.{ℕ}
use Rattle.std.proofs.Common.{Result, Option, Ok}
use Rattle.refusals.specs.declared.refusal.Refusal.{Refusal}
use Rattle.search_rules.specs.declared.part.Part.{Part}
use native.Mathlib.Omega.{arith}
use Rattle.pages.specs.Text.{ascii}
use Rattle.pages.proofs.Pages.{then, then_labelled}
use Rattle.listing_rules.proofs.PartTexts.{absent_text, refused_text_law, found_few, found_text, part_text}
use Rattle.listing.proofs.listed.part_lines.Goals as goal

-- What the search told of the part, in the answer that tells the heads too.
found_as : {r : Result (Option Part × ℕ) Refusal} {x y : Option Part} {n : ℕ} → r ≡ Ok (x, n) → x ≡ y → r ≡ Ok (y, n)
found_as {n = n} e q = e ∙ ap (λ (z : Option Part). Ok (z, n)) q

pub row_lines-requires : goal.row_lines-requires
row_lines-requires c =
    let p = c.requires in
    let f = rw (found_as c.in-Ok-Some-default.is c.in-Ok-Some-default.field-0-0-is) at c.find_part.ensures in
    let k = found_few _ _ _ _ _ p.table_len _ _ _ _ f in
    let t = c.find_part.auto.table in
    let id = c.put_hexadecimal.ensures in
    let place = c.place_text.ensures in
    let m = id.wrote.0.long in
    let n = place.wrote.0.long in
    record { rows_in_bounds = omega arith; line_room_in_bounds = omega arith }

pub returns-in-Ok-None-default-clause-wrote : goal.returns-in-Ok-None-default-clause-wrote
returns-in-Ok-None-default-clause-wrote c =
    let p = c.requires in
    let f = rw (found_as c.in-Ok-None-default.is c.in-Ok-None-default.field-0-0-is) at c.find_part.ensures in
    let id = c.put_hexadecimal.ensures in
    let end = c.put.ensures in
    let e = end.0.ends in (
      part_text _ _ _ _ _ _ _ _ _ _ (absent_text _ _ _ _ _ p.table_len _ f) (omega arith) id.wrote.0 end.0,
      end.1 ∙ id.wrote.1,
    )

pub returns-in-Err-clause-wrote : goal.returns-in-Err-clause-wrote
returns-in-Err-clause-wrote c =
    let p = c.requires in
    let f = rw c.in-Err.is at c.find_part.ensures in
    let id = c.put_hexadecimal.ensures in
    let number = rw c.number.ensures at c.put_decimal.ensures in
    let address = c.put_decimal-in-Err.ensures in
    let end = c.put-in-Err.ensures in
    let e = end.0.ends in
    let m = id.wrote.0.long in
    let n = number.wrote.0.long in
    let v = then_labelled _ _ _ _ _ (ascii " ") _ _ _ number.wrote.0 address.wrote.0 (omega arith) in
    let w = then _ _ _ _ _ _ _ _ v end.0 (omega arith) in (
      part_text _ _ _ _ _ _ _ _ _ _ (refused_text_law _ _ _ _ _ p.table_len _ f) (omega arith) id.wrote.0 w,
      end.1 ∙ address.wrote.1 ∙ number.wrote.1 ∙ id.wrote.1,
    )

pub returns-in-Ok-Some-default : goal.returns-in-Ok-Some-default
returns-in-Ok-Some-default c =
    let p = c.requires in
    let f = rw (found_as c.in-Ok-Some-default.is c.in-Ok-Some-default.field-0-0-is) at c.find_part.ensures in
    let k = found_few _ _ _ _ _ p.table_len _ _ _ _ f in
    let id = c.put_hexadecimal.ensures in
    let place = c.place_text.ensures in
    let lines = c.row_lines.ensures in
    let m = id.wrote.0.long in
    let w = then _ _ _ _ _ _ _ _ place.wrote.0 lines.wrote.0 (omega arith) in
    record {
      wrote = (
        part_text _ _ _ _ _ _ _ _ _ _ (found_text _ _ _ _ _ p.table_len _ _ _ _ f) (omega arith) id.wrote.0 w,
        lines.wrote.1 ∙ place.wrote.1 ∙ id.wrote.1,
      );
      upper_bound = omega arith;
    }
