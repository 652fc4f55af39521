-- The laws that the proofs of `walks` share, and its theorems.
pub mod Bounds
pub mod Steps
pub mod Endings
pub mod Walks
pub mod Told
pub mod Known
pub mod Clusters
