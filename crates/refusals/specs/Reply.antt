-- A public call's reply in document 01's own terms: what was asked for, or a refusal.
use Rattle.std.specs.Prelude.{ℕ}
use Rattle.refusals.specs.Causes.{cause_number, cause_id}
use Rattle.refusals.specs.declared.refusal.Refusal.{Refusal}

pub data Reply (A : Type 0) : Type 0 where
  accepted : A → Reply A
  refusal : Refusal → Reply A

-- The same with document 01's number in place of the cause, and with the address: as its cases write a reply.
pub data ByNumber (A : Type 0) : Type 0 where
  given : A → ByNumber A
  refused : (number id address : ℕ) → ByNumber A

abbrev pub by_number : {A : Type 0} → Reply A → ByNumber A
by_number (accepted a) = given a
by_number (refusal e) = refused (cause_number e.cause) (cause_id e.cause) e.address
