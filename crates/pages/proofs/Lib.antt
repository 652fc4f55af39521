-- The laws that the proofs of `pages` and of the crates above share.
pub mod Numerals
pub mod Pages
