-- The laws that the proofs of `utf8` share, and its theorems.
pub mod Leads
pub mod Steps
pub mod Ascii
pub mod Unique
pub mod Grammar
