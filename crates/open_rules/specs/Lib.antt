-- The definitions that the contracts of `opening` and `open` cite, and the statements of the theorems.
pub mod Parts
pub mod Tables
pub mod Opening
pub mod Promise
pub mod Contract
pub mod Theorems
pub mod Faults
pub mod Live
pub mod Cases
