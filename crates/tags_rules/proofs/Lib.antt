-- The laws that the proofs of `tags` share, and the theorems.
pub mod Tags
pub mod Unique
pub mod Addressed
pub mod Cases
