-- The definitions that the contracts of `search` cite, and the statements of its theorems.
pub mod Part
pub mod Theorems
pub mod Faults
pub mod Cases
pub mod Live
