-- The laws that the proofs of `rowtext` share.
pub mod RowTexts
pub mod Words
