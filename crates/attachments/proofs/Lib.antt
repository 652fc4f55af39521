-- The theorems of `attachments`.
pub mod Unique
pub mod Addressed
pub mod Cases
