-- The laws that the proofs of `info` share, and the theorems.
pub mod Families
pub mod Unique
pub mod Addressed
pub mod Cases
