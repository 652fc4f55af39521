-- Worked audio settings, as one table: a question about a small payload, and the answer. They show the rules of
-- document 01, Records, and of document 02, C-18.
use Rattle.std.specs.Prelude.{ℕ, List, [], ◌∷◌, Bool, true, false, length}
use Rattle.std.specs.Float.{binary64}
use Rattle.std.specs.Float.Ieee.{of_bits}
use Rattle.fields_rules.specs.Values.{unset, real}
use Rattle.locate_rules.specs.Promise.{answer_of, of_below}
use Rattle.locate_rules.specs.Cases.{numbers, Due, told, refused, Case, case}
use Rattle.media_rules.specs.Records.{audio_of}
use Rattle.media_rules.specs.Promise.{audio_asked}

-- The question, of a whole payload: in live mode or not, the index, and the answer.
abbrev audio : (live : Bool) → List ℕ → ℕ → Due → Case
audio live s k a = case (answer_of (of_below (audio_of s)) (audio_asked live s 0 (length s) k numbers)) a

-- A sample rate of 1.0 in 4 bytes.
abbrev rate_of_one : List ℕ
rate_of_one = 0xB5 ∷ 0x84 ∷ 0x3F ∷ 0x80 ∷ 0x00 ∷ 0x00 ∷ []

abbrev pub cases : List Case
cases =
    -- A float of 4 bytes is widened; audio has only record 0.
    audio false rate_of_one 0 (told (real (of_bits binary64 0x3FF0000000000000) ∷ unset ∷ unset ∷ []) 1)
    ∷ audio false rate_of_one 1 (refused 15 0 0)
    -- In live mode a field of unknown size is 17; in old mode its size is a number, and too large for it.
    ∷ audio true (0x9F ∷ 0xFF ∷ []) 0 (refused 17 0 0)
    ∷ audio false (0x9F ∷ 0xFF ∷ []) 0 (refused 4 0 0)
    ∷ []
