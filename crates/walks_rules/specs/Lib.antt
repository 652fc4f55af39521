-- The definitions that the contracts of `walks` cite, and the statements of its theorems.
pub mod Answers
pub mod Step
pub mod Walk
pub mod Endings
pub mod Contract
pub mod Theorems
