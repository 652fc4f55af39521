-- The laws that the proofs of `media` share, and the theorems.
pub mod Said
pub mod Numbers
pub mod Unique
pub mod Addressed
pub mod Cases
