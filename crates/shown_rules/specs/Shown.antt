-- Shown text (document 02, C-13; RFC 8794, section 13): what of a text is shown, and where that is.
use Rattle.std.specs.Prelude.{ℕ, List, [], ◌∷◌, Bool, cond, ◌||◌, length, take, drop, eqb}
use Rattle.refusals.specs.Refusals.{bad_argument}
use Rattle.kinds.specs.Kinds.{number_of}
use Rattle.kinds.specs.declared.kind.Kind.TheVariants.{String, Utf8}
use Rattle.elements_rules.specs.Rows.{row_at}
use Rattle.places_rules.specs.Payload.{PayloadRange, range, refused, payload_range}

-- The octets of a text before its first zero octet, which ends it: that octet and all behind it are not shown.
unfoldable pub shown : List ℕ → List ℕ
shown [] = []
shown (b ∷ text) = cond (eqb b 0) [] (b ∷ shown text)

-- Whether a kind's number is that of one of the two kinds of text.
unfoldable pub is_text : ℕ → Bool
is_text kind = eqb kind (number_of String) || eqb kind (number_of Utf8)

-- Of a range of the recording what is shown, which begins where the range does; a refusal as it is.
abbrev pub shown_in : List ℕ → PayloadRange → PayloadRange
shown_in s (range at n) = range at (length (shown (take n (drop at s))))
shown_in s (refused e) = refused e

-- The range of a text row's shown text; 14 where the row has no range, or is no text row.
unfoldable pub text_range : List ℕ → List ℕ → ℕ → PayloadRange
text_range s t k = cond (is_text (row_at t k).kind) (shown_in s (payload_range s t k)) (refused bad_argument)
