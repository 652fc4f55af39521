-- The theorems of `codes`.
pub mod Unique
