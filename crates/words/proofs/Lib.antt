-- The laws that the proofs of `words` use.
pub mod Parted
