-- The laws that the proofs of `labels` share, and its theorems.
pub mod Stages
pub mod Inside
pub mod Strings
pub mod Unique
pub mod Cases
