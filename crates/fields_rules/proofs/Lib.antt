-- The laws that the proofs of `fields` share, and the theorems.
pub mod Rest
pub mod Levels
pub mod Picked
pub mod Sizes
pub mod Taken
pub mod LastOnes
pub mod Enough
pub mod Once
