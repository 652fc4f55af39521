-- The definitions that the contracts of `labels` cite, and the statements of its theorems.
pub mod Labels
pub mod Promise
pub mod Theorems
pub mod Cases
