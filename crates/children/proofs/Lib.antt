-- The proofs of this crate that several functions share.
pub mod Drained
