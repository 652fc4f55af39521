-- The laws that the proofs of `bodies` use, and the theorems.
pub mod Signs
pub mod Nans
pub mod Ends
pub mod Found
pub mod ByKind
pub mod Replies
pub mod Unique
