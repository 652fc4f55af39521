-- What the proofs of `viewer` share, and the theorems.
pub mod Crossing
pub mod Unique
pub mod Tells
pub mod Named
pub mod Where
