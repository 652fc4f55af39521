-- The laws that the proofs of `opening` and `open` share, and the theorems.
pub mod Going
pub mod Beginning
pub mod Lending
pub mod Unique
pub mod Faults
pub mod Live
pub mod Found
pub mod Agrees
pub mod Cases
