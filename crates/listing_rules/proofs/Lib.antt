-- The laws that the proofs of `listing` share, and the theorems.
pub mod PartTexts
pub mod Unique
pub mod Cases
