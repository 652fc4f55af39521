-- What the proofs of `lines` share.
pub mod Gathered
pub mod Kept
