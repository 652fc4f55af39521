-- Rows as text (document 01, 'Program `rows`').
use Rattle.std.specs.Prelude.{ℕ, cond, List, [], ◌∷◌, ◌++◌, eqb}
use Rattle.elements_rules.specs.declared.row.Row.{Row}
use Rattle.pages.specs.Text.{ascii, decimal, hexadecimal}

-- The words for the kinds 1 to 8. A row has no other kind.
unfoldable pub kind_word : ℕ → List ℕ
kind_word kind =
    cond (eqb kind 1) (ascii "master")
    (cond (eqb kind 2) (ascii "int")
    (cond (eqb kind 3) (ascii "uint")
    (cond (eqb kind 4) (ascii "string")
    (cond (eqb kind 5) (ascii "utf8")
    (cond (eqb kind 6) (ascii "binary")
    (cond (eqb kind 7) (ascii "float")
    (cond (eqb kind 8) (ascii "date") [])))))))

-- Header address, header length, payload length, depth.
unfoldable pub row_place : Row → List ℕ
row_place r =
    decimal r.address
    ++ ascii " " ++ decimal r.header
    ++ ascii " " ++ decimal r.payload
    ++ ascii " " ++ decimal r.depth

-- Then the kind and the id.
unfoldable pub row_line : Row → List ℕ
row_line r = row_place r ++ ascii " " ++ kind_word r.kind ++ ascii " " ++ hexadecimal r.id ++ ascii "\n"

unfoldable pub row_lines : List Row → List ℕ
row_lines [] = []
row_lines (r ∷ rs) = row_line r ++ row_lines rs
