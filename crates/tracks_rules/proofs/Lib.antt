-- The laws that the proofs of `tracks` share, and the theorems.
pub mod Decided
pub mod Unique
pub mod Addressed
pub mod LastDecides
pub mod Cases
