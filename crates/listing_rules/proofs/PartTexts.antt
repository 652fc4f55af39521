-- The text of a part by the reply of the search. Assumes nothing.
use Prim.Native.Nat.{ℕ, ◌≤◌, ◌<◌}
use mathlib.Core.Path.{◌≡◌, refl, sym, ap, ◌∙◌}
use mathlib.Core.List.{List, ◌++◌}
use mathlib.Core.Bool.{Bool}
use native.Mathlib.Omega.{arith}
use native.Mathlib.Nat.{zero-add}
use borrow.Author.Tests.{lt-ltb, le-ltb}
use lib.ListN.{length}
use Rattle.refusals.specs.Reply.{accepted, refusal}
use Rattle.refusals.specs.declared.refusal.Refusal.{Refusal}
use Rattle.elements_rules.specs.Rows.{rows, rows_of}
use Rattle.elements_rules.specs.declared.row.Row.{Row}
use Rattle.search_rules.specs.Part.{Search, found, absent, refused, absent_part, search_of, reply_of, PartPromise}
use Rattle.search_rules.proofs.Found.{found_holds}
use Rattle.pages.specs.Text.{ascii, decimal, hexadecimal}
use Rattle.pages.specs.Page.{written, Wrote}
use Rattle.rowtext.specs.Lines.{row_lines}
use Rattle.listing_rules.specs.Listing.{most_listed, table_numbers, place_text, search_text, part_lines}
use Rattle.listing_rules.specs.Listing.{refused_text, all_parts, listing_of}
use Rattle.listing_rules.specs.Promise.{ListingPromise}
use Rattle.pages.proofs.Pages.{then}
use Rattle.std.proofs.Common.{Ok, Err, Some, None}

-- ---- what a reply tells

told_absent : (heads : ℕ) (y : Search) → accepted (absent_part heads) ≡ reply_of y → search_text y ≡ ascii " absent\n"
unfolding search_text
told_absent heads (found at size hs f) e = let z : ◌≡◌ {A = ℕ} 0 1 = cc in absurd (omega arith)
told_absent heads (absent hs) e = refl
told_absent heads (refused r) e = let z : ◌≡◌ {A = ℕ} 0 1 = cc in absurd (omega arith)

told_refused :
    (r : Refusal) (y : Search) → refusal r ≡ reply_of y
    → search_text y ≡ refused_text r
unfolding search_text
told_refused r (found at size hs f) e = let z : ◌≡◌ {A = ℕ} 0 1 = cc in absurd (omega arith)
told_refused r (absent hs) e = let z : ◌≡◌ {A = ℕ} 0 1 = cc in absurd (omega arith)
told_refused r (refused r') e =
    let n : r' ≡ r = cc in
    ap refused_text n

module _ (live : Bool) (s : List ℕ) (part : ℕ) (t t' : List ℕ) (l : length t ≡ table_numbers) where
  pub absent_text :
      (heads : ℕ) → PartPromise live s part t (Ok (None, heads)) t'
      → search_text (search_of live s part table_numbers) ≡ ascii " absent\n"
  absent_text heads p = told_absent heads (search_of live s part table_numbers) (rw l at p.reply)

  pub refused_text_law :
      (r : Refusal) → PartPromise live s part t (Err r) t'
      → search_text (search_of live s part table_numbers) ≡ refused_text r
  refused_text_law r p = told_refused r (search_of live s part table_numbers) (rw l at p.reply)

  module _ (at size n heads : ℕ) (p : PartPromise live s part t (Ok (Some (record { at = at; size = size; rows = n }), heads)) t') where
    pub found_few : n ≤ 1024
    found_few = let h = (found_holds live s part t at size n heads t' p).fits in omega arith

    pub found_text : search_text (search_of live s part table_numbers) ≡ place_text at size n ++ row_lines (rows_of t' n)
    unfolding search_text
    found_text =
        let h = found_holds live s part t at size n heads t' p in
        let f = h.forest in
        ap (λ (x : ℕ). search_text (search_of live s part x)) (sym l) ∙ ap search_text h.searched
        ∙ ap (λ (x : ℕ). place_text at size x ++ row_lines (rows 0 0 at 0 f)) (sym h.counted)
        ∙ ap (λ (x : List Row). place_text at size n ++ row_lines x) (sym h.rows_are)

-- The part's id, and what the search comes to.
pub part_text :
    (live : Bool) (s : List ℕ) (part : ℕ) (text page : List ℕ) (held r : ℕ) (page' : List ℕ) (r' : ℕ) (page'' : List ℕ)
    → search_text (search_of live s part table_numbers) ≡ text → r' ≤ length page
    → Wrote page held (ascii "part " ++ hexadecimal part) r page' → Wrote page' r text r' page''
    → Wrote page held (part_lines live s part) r' page''
unfolding part_lines
part_text live s part text page held r page' r' page'' e room v w =
    rw e (then page held (ascii "part " ++ hexadecimal part) r page' text r' page'' v w room)

-- ---- the whole listing

pub listing_is :
    (live : Bool) (s text page : List ℕ) (r : ℕ) (page' : List ℕ) → listing_of live s ≡ text → r ≤ length page
    → Wrote page 0 text
    r page'
    → ListingPromise live s page r page'
listing_is live s text page r page' e l w =
    let f = sym e in
    record {
      reply = w.ends ∙ zero-add (length text) ∙ ap length f;
      text = w.says ∙ ap (written page 0) f;
      fits = rw w.long l;
      long = w.long;
    }

pub too_long : (live : Bool) (s : List ℕ) → most_listed < length s → listing_of live s ≡ ascii "refused 14\n"
unfolding listing_of
too_long live s l = rw (lt-ltb most_listed (length s) l)

pub not_too_long :
    (live : Bool) (s : List ℕ) → length s ≤ most_listed
    → listing_of live s ≡ ascii "recording " ++ decimal (length s) ++ ascii "\n" ++ all_parts live s
unfolding listing_of
not_too_long live s l = rw (le-ltb most_listed (length s) l)
