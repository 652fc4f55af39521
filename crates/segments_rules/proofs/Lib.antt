-- The laws that the proofs of `segments` share, and the theorems.
pub mod Walks
pub mod Turns
pub mod Meetings
pub mod Pasts
pub mod MetTurns
