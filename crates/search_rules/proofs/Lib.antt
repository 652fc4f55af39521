-- The laws that the proofs of `search` share, and the theorems.
pub mod Trusty
pub mod Finding
pub mod Unique
pub mod Found
pub mod Useless
pub mod Cases
pub mod Faults
pub mod Live
