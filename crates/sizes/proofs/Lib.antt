-- The laws that the proofs of `sizes` share, and its theorems.
pub mod Octets
