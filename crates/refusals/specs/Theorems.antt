-- What is proved of every refusal, whichever call gives it: the statements of the theorems.
use Rattle.std.specs.Prelude.{ℕ, ◌≤◌, ◌≡◌, ◌⊎◌}
use Rattle.refusals.specs.Causes.{cause_number, cause_id}
use Rattle.refusals.specs.Promise.{NumberPromise, IdPromise}
use Rattle.refusals.specs.declared.refusal.Cause.{Cause}
use Rattle.refusals.specs.declared.refusal.Cause.TheVariants.{InvalidSize, Overrun}
use Rattle.refusals.specs.declared.refusal.Refusal.{Refusal}

-- A refusal of document 01's list, as document 02 (C-18) extends it: a number from 1 to 15 or 17, and an id other than
-- 0 with 8 alone.
pub record Listed (e : Refusal) : Type 0 where
  pub least : 1 ≤ cause_number e.cause
  pub most : cause_number e.cause ≤ 17
  pub but : cause_number e.cause ≡ 16 → ⊥
  pub alone : (cause_id e.cause ≡ 0 → ⊥) → cause_number e.cause ≡ 8

-- Each refusal is one. It shuts out a reader that tells a refusal as 0, so that a caller takes it for an answer. The
-- public calls say it of what they answer, each in its own crate.
abbrev pub AllListed : Type 0
AllListed = (e : Refusal) → Listed e

-- The two causes of 3.
abbrev pub OfThree : Cause → Type 0
OfThree c = (c ≡ InvalidSize) ⊎ (c ≡ Overrun)

-- Number and id tell the causes apart, but for the two of 3. It shuts out a list in which two other faults share a
-- number, and one that loses the id of 8.
abbrev pub ToldApart : Type 0
ToldApart =
    (c d : Cause) → cause_number c ≡ cause_number d → cause_id c ≡ cause_id d → (c ≡ d) ⊎ (OfThree c × OfThree d)

-- Any two replies that a promise permits to one question are equal (document 01, Strength of the promises).
abbrev pub OneNumber : Type 0
OneNumber = (c : Cause) (r r' : ℕ) → NumberPromise c r → NumberPromise c r' → r ≡ r'

abbrev pub OneId : Type 0
OneId = (c : Cause) (r r' : ℕ) → IdPromise c r → IdPromise c r' → r ≡ r'
