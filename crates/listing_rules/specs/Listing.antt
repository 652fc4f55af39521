-- The listing of a recording (document 01, 'Program `rows`').
use Rattle.std.specs.Prelude.{ℕ, ◌*◌, Bool, cond, List, ◌++◌, length, ltb}
use Rattle.refusals.specs.Causes.{cause_number}
use Rattle.refusals.specs.declared.refusal.Refusal.{Refusal}
use Rattle.elements_rules.specs.Forest.{count}
use Rattle.elements_rules.specs.Rows.{rows_at, width}
use Rattle.search_rules.specs.Part.{Search, found, absent, refused, search_of}
use Rattle.pages.specs.Text.{ascii, decimal, hexadecimal}
use Rattle.rowtext.specs.Lines.{row_lines}

-- The most bytes of a recording that is listed, and the table that its parts are read into: 1,024 rows.
abbrev pub most_listed : ℕ
most_listed = 65536

abbrev pub table_numbers : ℕ
table_numbers = 1024 * width

-- The payload's address and size, and how many rows it has.
unfoldable pub place_text : (at size rows : ℕ) → List ℕ
place_text at size rows =
    ascii " at " ++ decimal at ++ ascii " size " ++ decimal size ++ ascii " rows " ++ decimal rows ++ ascii "\n"

-- The refusal's number, without an id, and its address.
abbrev pub refused_text : Refusal → List ℕ
refused_text e =
    ascii " refused " ++ decimal (cause_number e.cause) ++ ascii " " ++ decimal e.address ++ ascii "\n"

-- What stands behind a part's id: that it is absent; the refusal; or where it is, and directly under that its rows.
unfoldable pub search_text : Search → List ℕ
search_text (absent heads) = ascii " absent\n"
search_text (refused e) = refused_text e
search_text (found at size heads f) = place_text at size (count f) ++ row_lines (rows_at at f)

unfoldable pub part_lines : (live : Bool) → List ℕ → ℕ → List ℕ
part_lines live s part = ascii "part " ++ hexadecimal part ++ search_text (search_of live s part table_numbers)

-- The four parts in their order: Tracks, Attachments, Chapters, Tags.
unfoldable pub all_parts : (live : Bool) → List ℕ → List ℕ
all_parts live s =
    part_lines live s 0x1654AE6B ++ part_lines live s 0x1941A469 ++ part_lines live s 0x1043A770 ++ part_lines live s
    0x1254C367

-- The listing; a longer recording is refused with 14.
unfoldable pub listing_of : (live : Bool) → List ℕ → List ℕ
listing_of live s =
    cond (ltb most_listed (length s))
    (ascii "refused 14\n")
    (ascii "recording " ++ decimal (length s) ++ ascii "\n" ++ all_parts live s)
