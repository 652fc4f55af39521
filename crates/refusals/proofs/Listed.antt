-- Every refusal is one of document 01's list (`AllListed`), and number and id tell the causes apart (`ToldApart`).
-- Assumes nothing.
use Prim.Native.Nat.{ℕ, ◌≤◌}
use mathlib.Core.Path.{◌≡◌, refl, sym, ap, ◌∙◌}
use mathlib.Core.List.{List, [], ◌∷◌}
use mathlib.Core.Bool.{cond}
use mathlib.Core.Logic.{◌⊎◌, inl, inr}
use native.Mathlib.Omega.{arith}
use lib.Dec.{eqb}
use Rattle.refusals.specs.Causes.{cause_number, cause_id}
use Rattle.refusals.specs.Refusals.{because}
use Rattle.refusals.specs.Theorems.{Listed, AllListed, OfThree, ToldApart, OneNumber, OneId}
use Rattle.refusals.specs.declared.refusal.Cause.{Cause}
use Rattle.refusals.specs.declared.refusal.Cause.TheVariants.{PastEnd, InvalidId, InvalidSize, Overrun}
use Rattle.refusals.specs.declared.refusal.Cause.TheVariants.{InvalidUint, InvalidFloat, InvalidDate, NotUtf8}
use Rattle.refusals.specs.declared.refusal.Cause.TheVariants.{InvalidSeekHead, StaleEntry, HeadAgain}
use Rattle.refusals.specs.declared.refusal.Cause.TheVariants.{TooManyHeads, TooDeep, NoFreeRow}
use Rattle.refusals.specs.declared.refusal.Cause.TheVariants.{BadArgument, Outside, UnknownSize}

-- A cause without an id.
plain : (at : ℕ) (c : Cause) → 1 ≤ cause_number c → (cause_number c ≤ 15) ⊎ (cause_number c ≡ 17) → cause_id c ≡ 0
    → Listed (because c at)
plain at c least (inl most) z =
    record { least = least; most = omega arith; but = λ q. omega arith; alone = λ some. absurd (some z) }
plain at c least (inr is) z =
    record { least = least; most = omega arith; but = λ q. omega arith; alone = λ some. absurd (some z) }

of_cause : (at : ℕ) (c : Cause) → Listed (because c at)
of_cause at PastEnd = plain at PastEnd (omega arith) (inl (omega arith)) refl
of_cause at InvalidId = plain at InvalidId (omega arith) (inl (omega arith)) refl
of_cause at InvalidSize = plain at InvalidSize (omega arith) (inl (omega arith)) refl
of_cause at Overrun = plain at Overrun (omega arith) (inl (omega arith)) refl
of_cause at InvalidUint = plain at InvalidUint (omega arith) (inl (omega arith)) refl
of_cause at InvalidFloat = plain at InvalidFloat (omega arith) (inl (omega arith)) refl
of_cause at InvalidDate = plain at InvalidDate (omega arith) (inl (omega arith)) refl
of_cause at NotUtf8 = plain at NotUtf8 (omega arith) (inl (omega arith)) refl
of_cause at (InvalidSeekHead id) = record {
  least = omega arith;
  most = omega arith;
  but = λ q. omega arith;
  alone = λ
      some. refl;
}
of_cause at StaleEntry = plain at StaleEntry (omega arith) (inl (omega arith)) refl
of_cause at HeadAgain = plain at HeadAgain (omega arith) (inl (omega arith)) refl
of_cause at TooManyHeads = plain at TooManyHeads (omega arith) (inl (omega arith)) refl
of_cause at TooDeep = plain at TooDeep (omega arith) (inl (omega arith)) refl
of_cause at NoFreeRow = plain at NoFreeRow (omega arith) (inl (omega arith)) refl
of_cause at BadArgument = plain at BadArgument (omega arith) (inl (omega arith)) refl
of_cause at Outside = plain at Outside (omega arith) (inl (omega arith)) refl
of_cause at UnknownSize = plain at UnknownSize (omega arith) (inr refl) refl

pub listed : AllListed
listed e = of_cause e.address e.cause

-- The causes with an id for 8, and the first of them that has a number.
abbrev causes : ℕ → List Cause
causes id =
    PastEnd
    ∷ InvalidId
    ∷ InvalidSize
    ∷ InvalidUint
    ∷ InvalidFloat
    ∷ InvalidDate
    ∷ NotUtf8
    ∷ InvalidSeekHead id
    ∷ StaleEntry
    ∷ HeadAgain
    ∷ TooManyHeads
    ∷ TooDeep
    ∷ NoFreeRow
    ∷ BadArgument
    ∷ Outside
    ∷ UnknownSize
    ∷ []

abbrev cause_in : List Cause → ℕ → Cause
cause_in [] n = Outside
cause_in (c ∷ cs) n = cond (eqb n (cause_number c)) c (cause_in cs n)

-- A cause is the first with its number, or it is the second of the two of 3.
abbrev Back : Cause → Type 0
Back c = (cause_in (causes (cause_id c)) (cause_number c) ≡ c) ⊎ (c ≡ Overrun)

back : (c : Cause) → Back c
back PastEnd = inl refl
back InvalidId = inl refl
back InvalidSize = inl refl
back Overrun = inr refl
back InvalidUint = inl refl
back InvalidFloat = inl refl
back InvalidDate = inl refl
back NotUtf8 = inl refl
back (InvalidSeekHead id) = inl refl
back StaleEntry = inl refl
back HeadAgain = inl refl
back TooManyHeads = inl refl
back TooDeep = inl refl
back NoFreeRow = inl refl
back BadArgument = inl refl
back Outside = inl refl
back UnknownSize = inl refl

-- One with the number of an overrun is one of the two.
beside : (c d : Cause) → cause_number c ≡ cause_number d → cause_in (causes (cause_id c)) (cause_number c) ≡ c → d ≡ Overrun
    → OfThree c × OfThree d
beside c d n x y =
    (inl (sym x ∙ ap (cause_in (causes (cause_id c))) (n ∙ ap cause_number y)), inr y)

pub told_apart : ToldApart
told_apart c d n i = go (back c) (back d)
  where
    same : cause_in (causes (cause_id c)) (cause_number c) ≡ cause_in (causes (cause_id d)) (cause_number d)
    same = ap (λ (x : ℕ). cause_in (causes x) (cause_number c)) i ∙ ap (cause_in (causes (cause_id d))) n

    go : Back c → Back d → (c ≡ d) ⊎ (OfThree c × OfThree d)
    go (inl x) (inl y) = inl (sym x ∙ same ∙ y)
    go (inl x) (inr y) = inr (beside c d n x y)
    go (inr x) (inl y) = let b = beside d c (sym n) y x in inr (b.1, b.0)
    go (inr x) (inr y) = inl (x ∙ sym y)

-- ---- what the calls promise

pub number_unique : OneNumber
number_unique c r r' p q = p ∙ sym q

pub id_unique : OneId
id_unique c r r' p q = p ∙ sym q
