-- The theorems of `refusals`.
pub mod Listed
