-- The definitions that the contracts of `elements` cite, and the statements of its theorems.
pub mod Forest
pub mod Reading
pub mod Rows
pub mod Stands
pub mod Holds
pub mod Promise
pub mod Contract
pub mod Theorems
pub mod Cases
pub mod Useless
pub mod Jumps
pub mod Acceptance
pub mod Faults
pub mod Live
