-- The theorems of `chapters`, and the laws of its first display with a set string.
pub mod Unique
pub mod Addressed
pub mod Displays
pub mod Cases
