-- The laws that the proofs of `seekchain` share, and the theorems.
pub mod Positions
pub mod Seen
pub mod Sought
pub mod Chains
pub mod Leads
pub mod Faults
pub mod Lookups
pub mod Live
