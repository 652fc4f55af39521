-- The laws that the proofs of `places` share, and the theorems.
pub mod Ranges
pub mod Spots
pub mod Asked
pub mod Unique
pub mod Owners
pub mod Accepted
pub mod Honest
pub mod Live
