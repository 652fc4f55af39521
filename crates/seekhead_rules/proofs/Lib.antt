-- The laws that the proofs of `seekhead` share, and the theorem.
pub mod Uncounted
pub mod PositionLaws
pub mod Levels
pub mod Skims
pub mod Members
