-- The definitions that the contracts of `locate` cite, and the statements of its theorems.
pub mod Steps
pub mod Asked
pub mod Told
pub mod Contract
pub mod Promise
pub mod Theorems
pub mod Live
pub mod Cases
