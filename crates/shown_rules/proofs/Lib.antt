-- The laws that the proofs of `shown` share, and the theorems.
pub mod Zeros
pub mod Texts
pub mod Characters
pub mod Accepted
pub mod Unique
pub mod Cases
