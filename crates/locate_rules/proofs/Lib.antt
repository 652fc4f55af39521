-- The laws that the proofs of `locate` and of the crates above share, and the theorems.
pub mod Ways
pub mod Inner
pub mod Lists
pub mod Settled
pub mod Told
pub mod Unique
pub mod Addressed
pub mod IsRead
pub mod Honest
pub mod Live
