-- The definitions that the contracts of `sizes` cite, and the statements of its theorems.
pub mod Unknown
pub mod Theorems
