-- The definitions that the contracts of `seekchain` cite, and the statements of its theorems.
pub mod Answers
pub mod Heads
pub mod Lookup
pub mod Contract
pub mod Theorems
pub mod Faults
pub mod Live
