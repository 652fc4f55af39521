-- What is proved of shown text beside the contracts: the statements of the theorems.
use Rattle.std.specs.Prelude.{ℕ, ◌≤◌, ◌<◌, ◌≡◌, ◌⊎◌, Bool, true, false, length, take, drop}
use mathlib.Core.List.{List, [], ◌∷◌, ◌++◌, Memᴰ}
use Rattle.refusals.specs.Refusals.{bad_argument}
use Rattle.refusals.specs.Theorems.{Listed}
use Rattle.refusals.specs.declared.refusal.Refusal.{Refusal}
use Rattle.utf8.specs.Utf8.{utf8}
use Rattle.bodies_rules.specs.declared.body.Range.{Range}
use Rattle.elements_rules.specs.Rows.{row_at, payload_of}
use Rattle.elements_rules.specs.Promise.{ReadPromise}
use Rattle.places_rules.specs.Promise.{RangePromise, PayloadPromise}
use Rattle.shown_rules.specs.Shown.{is_text}
use Rattle.shown_rules.specs.Promise.{TextPromise, ShownPromise}
use Rattle.std.specs.Prelude.{Result, Ok, Err}

-- Any two replies that a promise permits to one question are equal (document 01, Strength of the promises).
abbrev pub OneText : Type 0
OneText = (s t : List ℕ) (row : ℕ) (r r' : Result Range Refusal) → TextPromise s t row r → TextPromise s t row r' → r ≡ r'

abbrev pub OneShown : Type 0
OneShown =
    (s t : List ℕ) (row : ℕ) (part part' : List ℕ) → ShownPromise s t row part → ShownPromise s t row part'
    → part ≡ part'

-- A refusal among the replies that the promise permits is one of document 01's list.
abbrev pub TextRefusesListed : Type 0
TextRefusesListed = (s t : List ℕ) (row : ℕ) (e : Refusal) → TextPromise s t row (Err e) → Listed e

-- Where it broke: a text's range is refused with 14 alone, at 0.
abbrev pub TextHonest : Type 0
TextHonest = (s t : List ℕ) (row : ℕ) (e : Refusal) → TextPromise s t row (Err e) → e ≡ bad_argument

-- ---- up to the first zero octet

-- A part that ends before the first zero octet: the whole begins with it, it holds no zero octet, and it is the whole,
-- or a zero octet follows it.
pub record BeforeZero (whole part : List ℕ) : Type 0 where
  pub rest : List ℕ
  pub begins : whole ≡ part ++ rest
  pub clean : Memᴰ 0 part → ⊥
  pub stops : (rest ≡ []) ⊎ ((behind : List ℕ) × (rest ≡ 0 ∷ behind))

-- So it is the longest beginning without a zero octet.
abbrev pub Longest : Type 0
Longest =
    (whole part : List ℕ) → BeforeZero whole part
    → (other rest : List ℕ) → whole ≡ other ++ rest → (Memᴰ 0 other → ⊥) → length other ≤ length part

-- And there is no other such part.
abbrev pub OneBeforeZero : Type 0
OneBeforeZero = (whole part part' : List ℕ) → BeforeZero whole part → BeforeZero whole part' → part ≡ part'

-- Of a text row that part of its payload is shown.
abbrev pub ShownBeforeZero : Type 0
ShownBeforeZero =
    (s t : List ℕ) (row : ℕ) (payload part : List ℕ) → is_text (row_at t row).kind ≡ true
    → PayloadPromise s t row payload → ShownPromise s t row part → BeforeZero payload part

-- A tail that begins with a zero octet is not seen: two text rows whose payloads differ by it are shown alike.
abbrev pub TailUnseen : Type 0
TailUnseen =
    (s t : List ℕ) (row : ℕ) (s' t' : List ℕ) (row' : ℕ) (payload tail part part' : List ℕ)
    → is_text (row_at t row).kind ≡ true → is_text (row_at t' row').kind ≡ true
    → PayloadPromise s t row payload → PayloadPromise s' t' row' (payload ++ 0 ∷ tail)
    → ShownPromise s t row part → ShownPromise s' t' row' part' → part ≡ part'

-- What is shown of a range of the recording: a range within it that begins at the same address.
pub record ShownRange (s : List ℕ) (payload : Range) (r : Result Range Refusal) : Type 0 where
  pub text : Range
  pub told : r ≡ Ok text
  pub address : text.at ≡ payload.at
  pub within : text.length ≤ payload.length
  pub part : BeforeZero (take payload.length (drop payload.at s)) (take text.length (drop text.at s))

-- A text row whose payload is in the recording is not refused.
abbrev pub TextInPayload : Type 0
TextInPayload =
    (s t : List ℕ) (row : ℕ) (payload : Range) (r : Result Range Refusal) → is_text (row_at t row).kind ≡ true
    → RangePromise s t row (Ok payload) → TextPromise s t row r → ShownRange s payload r

-- A row that is no text row is refused.
abbrev pub NoTextRefused : Type 0
NoTextRefused =
    (s t : List ℕ) (row : ℕ) (r : Result Range Refusal) → is_text (row_at t row).kind ≡ false
    → TextPromise s t row r → r ≡ Err bad_argument

-- ---- shown text is UTF-8

-- Where the payload is; a cut never parts a character.
abbrev pub ShownIsUtf8 : Type 0
ShownIsUtf8 =
    (s t : List ℕ) (row : ℕ) (payload part : List ℕ)
    → PayloadPromise s t row payload → ShownPromise s t row part → utf8 payload ≡ true → utf8 part ≡ true

-- A row's shown text: its payload up to the first zero octet, in UTF-8.
pub record Shows (payload part : List ℕ) : Type 0 where
  pub zero : BeforeZero payload part
  pub encoded : utf8 part ≡ true

-- So it is of every text row of an accepted read, in live mode and in old mode.
abbrev pub AcceptedShown : Type 0
AcceptedShown =
    (live : Bool) (s : List ℕ) (start size parent : ℕ) (t : List ℕ) (n : ℕ) (t' : List ℕ)
    → ReadPromise live s start size parent t (Ok n) t'
    → (k : ℕ) → k < n → is_text (row_at t' k).kind ≡ true
    → (part : List ℕ) → ShownPromise s t' k part → Shows (payload_of s (row_at t' k)) part
