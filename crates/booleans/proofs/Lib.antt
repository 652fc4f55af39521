-- Laws that the proofs of several crates share.
pub mod Computed
pub mod Handed
pub mod Pairs
pub mod Turned
pub mod Mapped
